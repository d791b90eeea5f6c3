use Rattle.std.proofs.Common.{◌≡◌, ◌≤◌, ◌==◌, drop, if◌then◌else◌, length, encode_utf8_all, arith, sym, ap, subst, rules}
use Rattle.std.specs.Option.{option_map}
use Rattle.glob_syntax.specs.inner.LexemeViews.{NoCloser}
use Rattle.glob_syntax.specs.ErrorOffset.{first_error}
use Rattle.glob_syntax.proofs.lemmas.Lists.{one_cell}
use Rattle.glob_syntax.proofs.lemmas.UnclosedClasses.{no_closer_next}
use Rattle.glob_syntax.proofs.lemmas.FirstError.{goes_on, stops, ends_open, ends, bytes_after}
use Rattle.glob_syntax.proofs.reading.from_error.Goals as goal
use Rattle.glob_syntax.proofs.reading.from_error.Goals.{then-depth-eq0, else-depth-eq0}

pub returns-in-Err-clause-value : goal.returns-in-Err-clause-value
returns-in-Err-clause-value c =
    sym (ap (option_map (λ e. e.1)) (stops c.args.options c.loop-rest.depth c.loop-rest.outer.now c.loop-rest.rest.now (first_error c.args.options c.args.text.now) c.loop-rest.invariant.found _ _ _ _ _
    (one_cell c.loop-rest.rest.now c.c-item.result c.in-len1-up.len_at_least c.c-item.is) c.lexeme_at-more.ensures.value c.in-Err.ensures.value))

pub loop-rest-preserved : goal.loop-rest-preserved
loop-rest-preserved c =
    let cell = one_cell c.loop-rest.rest.now c.c-item.result c.in-len1-up.len_at_least c.c-item.is in
    let outer : c.if-depth-eq0.outer.now ≡ (if c.loop-rest.depth == 0 then c.loop-rest.rest.now else c.loop-rest.outer.now) =
    elim c.if-depth-eq0.branch [ then-depth-eq0 w ↦ search rules | else-depth-eq0 w ↦ search rules ] in
    let outer_within : length (encode_utf8_all c.if-depth-eq0.outer.now) ≤ length (encode_utf8_all c.args.text.now) =
    elim c.if-depth-eq0.branch [ then-depth-eq0 w ↦ rw w.outer-is c.loop-rest.invariant.rest_within | else-depth-eq0 w ↦ rw w.outer-is c.loop-rest.invariant.outer_within ] in
    let next = goes_on c.args.options c.loop-rest.depth c.loop-rest.outer.now c.loop-rest.rest.now (first_error c.args.options c.args.text.now) c.loop-rest.invariant.found _ _ _ _ _ _
    cell c.lexeme_at-more.ensures.value c.in-Ok.ensures.value in
    let shorter = bytes_after c.loop-rest.rest.now _ _ c.lexeme_at-more.result.1 cell in
    record {
      found = rw (outer, c.split_at.ensures.back) next;
      known = λ f. subst (λ l. NoCloser (drop 2 l)) (sym c.split_at.ensures.back) (no_closer_next c.lexeme_at-more.result.1 _ (c.lexeme_at-more.ensures.known f));
      fits = omega (arith, c.in-Ok.ensures.one_more);
      outer_within = outer_within;
      rest_within = rw c.split_at.ensures.back (omega (arith, shorter, c.loop-rest.invariant.rest_within));
    }

pub returns-then-depth-gt0-clause-value : goal.returns-then-depth-gt0-clause-value
returns-then-depth-gt0-clause-value c =
    sym (ap (option_map (λ e. e.1)) (ends_open c.args.options c.loop-rest.depth c.loop-rest.outer.now c.loop-rest.rest.now (first_error c.args.options c.args.text.now) c.loop-rest.invariant.found (omega arith) c.if-depth-gt0.true))

pub returns-else-depth-gt0-clause-value : goal.returns-else-depth-gt0-clause-value
returns-else-depth-gt0-clause-value c =
    sym (ap (option_map (λ e. e.1)) (ends c.args.options c.loop-rest.depth c.loop-rest.outer.now c.loop-rest.rest.now (first_error c.args.options c.args.text.now) c.loop-rest.invariant.found (omega arith) (omega arith)))
