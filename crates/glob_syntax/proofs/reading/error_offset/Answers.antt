use Rattle.std.proofs.Common.{Some, None, length, ap, arith, ◌∙◌, ◌-◌}
use Rattle.glob_syntax.proofs.lemmas.FirstError.{bytes_of, offset_of}
use Rattle.glob_syntax.proofs.reading.error_offset.Goals as goal

pub returns-in-None : goal.returns-in-None
returns-in-None c =
    offset_of c.args.options c.args.text.now c.deref.result.now None c.utf8.text (c.deref.ensures.value ∙ c.in_ok-characters.ensures) c.in-None.ensures.value

pub utf8_len-requires : goal.utf8_len-requires
utf8_len-requires c = omega (arith, bytes_of c.args.text.now c.deref.result.now c.utf8.text (c.deref.ensures.value ∙ c.in_ok-characters.ensures), c.in-Some.ensures.within)

pub overflow_sub-result : goal.overflow_sub-result
overflow_sub-result c =
    omega (arith, bytes_of c.args.text.now c.deref.result.now c.utf8.text (c.deref.ensures.value ∙ c.in_ok-characters.ensures), c.in-Some.ensures.within, c.utf8_len.ensures)

pub returns : goal.returns
returns c =
    ap (λ n. Some (length c.args.text.now - n)) c.utf8_len.ensures
    ∙ offset_of c.args.options c.args.text.now c.deref.result.now (Some c.in-Some.rest.now) c.utf8.text (c.deref.ensures.value ∙ c.in_ok-characters.ensures) c.in-Some.ensures.value
