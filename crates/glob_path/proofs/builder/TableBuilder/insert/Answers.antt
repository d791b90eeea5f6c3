use Rattle.std.proofs.Common.{◌≡◌, ◌∙◌, ◌++◌, ◌∷◌, [], ◌+◌, length, ap, arith, length-append, Result, Ok, Err}
use Rattle.std.specs.Result.{OnErr}
use Rattle.glob_path.specs.Entries.{entry}
use Rattle.glob_path.proofs.lemmas.Bytes.{entries_kept, entries_added, kept_added}
use Rattle.glob_path.proofs.builder.TableBuilder.insert.Goals as goal

on_err_always : {T E P : Type 0} (r : Result T E) → P → OnErr r P
on_err_always (Ok x) p = tt
on_err_always (Err e) p = p

pub returns-in_err-push-clause-err : goal.returns-in_err-push-clause-err
returns-in_err-push-clause-err c =
    rw (c.in_err-push.ensures.items, c.in_ok-extend_from_slice.ensures.items)
    (on_err_always c.from_residual-in_err-push.result (entries_kept _ c.args.key.now _ c.self.invariant ∙ c.self.view_is))

pub returns-clause-ok : goal.returns-clause-ok
returns-clause-ok c =
    let at : c.len-start.result ≡ length c.self.inside.bytes.items = omega (arith, c.len-start.ensures) in
    let more = ap length c.in_ok-extend_from_slice.ensures.items ∙ length-append c.self.inside.bytes.items c.args.key.now in
    let long : c.len.result ≡ c.len-start.result + length c.args.key.now = omega (arith, c.len.ensures, more, at) in
    rw (c.in_ok-push.ensures.items, c.in_ok-extend_from_slice.ensures.items)
    (entries_added c.self.inside.bytes.items c.args.key.now c.self.inside.pairs.items _ c.self.invariant at long ∙ ap (λ l. l ++ entry c.args.key.now c.args.index ∷ []) c.self.view_is)

pub invariant_of-self-2 : goal.invariant_of-self-2
invariant_of-self-2 c =
    let at : c.len-start.result ≡ length c.self.inside.bytes.items = omega (arith, c.len-start.ensures) in
    let more = ap length c.in_ok-extend_from_slice.ensures.items ∙ length-append c.self.inside.bytes.items c.args.key.now in
    let long : c.len.result ≡ c.len-start.result + length c.args.key.now = omega (arith, c.len.ensures, more, at) in
    rw (c.in_ok-push.ensures.items, c.in_ok-extend_from_slice.ensures.items)
    (kept_added c.self.inside.bytes.items c.args.key.now c.self.inside.pairs.items _ c.self.invariant at long c.hash.ensures)
