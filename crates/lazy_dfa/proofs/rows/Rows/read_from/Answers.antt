use Rattle.std.proofs.Common.{◌≡◌, ℕ, ◌+◌, ◌<◌, ◌∷◌, ◌++◌, [], inr, true≢false, drop, length, get_or, refl, subst, arith, sym, ◌∙◌}
use Rattle.std.proofs.lemmas.List.{drop_more}
use Rattle.std.specs.Prelude.{◌↔◌}
use Rattle.byte_nfa.proofs.lemmas.Pass.{iff_trans}
use Rattle.byte_nfa.specs.EarlyMatches.{half, FindsBy}
use Rattle.lazy_dfa.specs.inner.Rows.{AcceptsRow}
use Rattle.byte_nfa.proofs.lemmas.Finding.{at_quiet, at_dead}
use Rattle.lazy_dfa.proofs.lemmas.Rows.{one_row}
use Rattle.lazy_dfa.proofs.rows.Rows.read_from.Goals as goal
use Rattle.lazy_dfa.proofs.rows.Rows.read_from.Goals.{in-Some, in_default+in-Some-known_step+else-step+in-Some-next}

pub loop-byte-init : goal.loop-byte-init
loop-byte-init c =
    let d = c.args.dfa.now in
    let m = d.run in
    let rows = c.args.self.now in
    let (j, at) = c.requires.row in
    record {
      at = refl;
      runs = (
        j,
        at,
        λ i at' z k. subst (λ r. FindsBy (half m) (AcceptsRow m rows j) (c.args.text.now ++ z) k ↔ FindsBy (half m) (AcceptsRow m rows r) (c.args.text.now ++ z) k) (one_row d rows j i c.args.place at at') (λ h. h, λ h. h),
      );
      visits = omega arith;
      counted = omega arith;
    }

pub returns-in_default-known_step-clause-reached : goal.returns-in_default-known_step-clause-reached
returns-in_default-known_step-clause-reached c = λ i at.
    let inv = c.loop-byte.invariant in
    let (j, there, runs) = inv.runs in
    record {
      within = omega (arith, inv.at, c.loop-byte-test.true);
      row = (j, there, rw inv.at (runs i at));
    }

pub returns-then-step-clause-reached : goal.returns-then-step-clause-reached
returns-then-step-clause-reached c = λ i at z.
    let d = c.args.dfa.now in
    let m = d.run in
    let text = c.args.text.now in
    let l = c.loop-byte in
    let n = l.byte-index in
    let lt : n < length text = c.loop-byte-test.true in
    let b : ℕ = get_or text n 0 in
    let rest = drop (n + 1) text in
    let more : drop n text ≡ b ∷ rest = drop_more text n 0 lt in
    let (j, there, runs) = l.invariant.runs in
    let step = rw c.in-Some-known_step.is at c.known_step.ensures.step j there in
    let (k, low, a) = step.marks.0 c.if-step.true in
    (k, (rw more at runs i at z k).0 (low, inr ([], b ∷ rest ++ z, refl, a)))

pub returns-in_default-next-clause-reached : goal.returns-in_default-next-clause-reached
returns-in_default-next-clause-reached c = λ i at z k found.
    let d = c.args.dfa.now in
    let m = d.run in
    let rows = c.args.self.now in
    let text = c.args.text.now in
    let l = c.loop-byte in
    let n = l.byte-index in
    let lt : n < length text = c.loop-byte-test.true in
    let b : ℕ = get_or text n 0 in
    let rest = drop (n + 1) text in
    let more : drop n text ≡ b ∷ rest = drop_more text n 0 lt in
    let (j, there, runs) = l.invariant.runs in
    let step = rw c.in-Some-known_step.is at c.known_step.ensures.step j there in
    let dead = rw c.in_default-next.is at step.next in
    let (low, a) = (at_dead (half m) (AcceptsRow m rows j) b dead (rest ++ z) k).0 ((rw more at runs i at z k).1 found) in
    true≢false (sym (step.marks.1 (k, low, a)) ∙ c.if-step.false)

pub loop-byte-preserved : goal.loop-byte-preserved
loop-byte-preserved c =
    let d = c.args.dfa.now in
    let m = d.run in
    let rows = c.args.self.now in
    let text = c.args.text.now in
    let l = c.loop-byte in
    let inv = l.invariant in
    let n = l.byte-index in
    let lt : n < length text = c.loop-byte-test.true in
    let b : ℕ = get_or text n 0 in
    let rest = drop (n + 1) text in
    let more : drop n text ≡ b ∷ rest = drop_more text n 0 lt in
    let (j, there, runs) = inv.runs in
    elim c.match-plain_next.branch [
      | in-Some w ↦
          let (quiet, (next, there', goes)) = rw w.in-Some.is at c.plain_next.ensures.next j there in
          rw (w.place-is, w.visits-is) record {
            at = omega (arith, inv.at);
            runs = (
              next,
              there',
              λ i at z k. iff_trans (at_quiet (half m) (AcceptsRow m rows j) (AcceptsRow m rows next) b goes (λ d low a. quiet (d, low, a)) (rest ++ z) k) (rw more at runs i at z k),
            );
            visits = omega (arith, w.in-Some.ensures.visits, inv.visits);
            counted = omega (arith, w.in-Some.ensures.visits, inv.counted);
          }
      | in_default+in-Some-known_step+else-step+in-Some-next w ↦
          let step = rw w.in-Some-known_step.is at w.known_step.ensures.step j there in
          let (next, there', goes) = rw w.in-Some-next.is at step.next in
          rw (w.place-is, w.visits-is) record {
            at = omega (arith, inv.at);
            runs = (
              next,
              there',
              λ i at z k. iff_trans (at_quiet (half m) (AcceptsRow m rows j) (AcceptsRow m rows next) b goes
                  (λ d low a. true≢false (sym (step.marks.1 (d, low, a)) ∙ w.if-step.false)) (rest ++ z) k) (rw more at runs i at z k),
            );
            visits = omega (arith, w.in-Some-known_step.ensures.visits, w.in_default.ensures.visits, inv.visits);
            counted = omega (arith, w.in-Some-known_step.ensures.visits, w.in_default.ensures.visits, inv.counted);
          }
    ]

pub returns-clause-reached : goal.returns-clause-reached
returns-clause-reached c = λ i at.
    let inv = c.loop-byte.invariant in
    let (j, there, runs) = inv.runs in
    record {
      within = omega (arith, inv.at, c.loop-byte.auto.byte-index-end);
      row = (j, there, rw inv.at (runs i at));
    }
