use Rattle.std.proofs.Common.{◌≡◌, ℕ, ◌+◌, ◌∷◌, ◌++◌, List, [], inr, true≢false, drop, length, refl, ap, arith, sym, ◌∙◌}
use Rattle.std.proofs.lemmas.List.{length-drop, take_rest}
use Rattle.byte_nfa.specs.Runs.{size}
use Rattle.byte_nfa.specs.Steps.{IsReached}
use Rattle.byte_nfa.proofs.lemmas.Pass.{iff_trans}
use Rattle.byte_nfa.specs.EarlyMatches.{half}
use Rattle.lazy_dfa.specs.inner.Rows.{AcceptsRow}
use Rattle.byte_nfa.proofs.lemmas.Finding.{finds_same, at_quiet, at_dead, visits_left, visits_stepped}
use Rattle.lazy_dfa.proofs.lemmas.Reading.{read_on}
use Rattle.lazy_dfa.proofs.cache.read.Goals as goal

pub loop-reached-init : goal.loop-reached-init
loop-reached-init c = record {
  sound = c.start-place.ensures.sound;
  fits = c.requires.fits;
  runs =
      let d = c.args.dfa.now in
      let m = d.run in
      let (j, at, begins) = c.start-place.ensures.begins in
      (j, at, λ z k. finds_same (half m) (AcceptsRow m c.start-place.new.self j) (IsReached m) begins (c.args.text.now ++ z) k);
  visits = omega arith;
  counted = omega arith;
}

pub returns-in-Ok-clause-reached : goal.returns-in-Ok-clause-reached
returns-in-Ok-clause-reached c =
    let d = c.args.dfa.now in
    let m = d.run in
    let rows = c.loop-reached.rows in
    let (j, at, runs) = c.loop-reached.invariant.runs in
    read_on d rows (AcceptsRow m rows j) (IsReached m) c.loop-reached.rest.now c.args.text.now c.in-Ok.reached runs (rw c.in-Ok.is at c.read_from.ensures.reached j at)

pub returns-in_default-clause-reached : goal.returns-in_default-clause-reached
returns-in_default-clause-reached c =
    let rest = c.loop-reached.rest.now in
    let (j, at, runs) = c.loop-reached.invariant.runs in
    let left = rw c.in-Err.is at c.read_from.ensures.reached j at in
    let (j', at', finds) = left.row in
    let n = c.in-Err.left.at in
    let none = rw c.in_default.is at c.split_first.ensures.cases in
    let past : drop n rest ≡ [] = no_items (drop n rest) (sym (ap length (take_rest rest n)) ∙ none) in
    (j', at', λ z k. iff_trans (rw past at finds z k) (runs z k))
  where
    no_items : (xs : List ℕ) → length xs ≡ 0 → xs ≡ []
    no_items [] none = refl
    no_items (x ∷ xs) none = absurd (omega (arith, none))

pub returns-then-step-clause-reached : goal.returns-then-step-clause-reached
returns-then-step-clause-reached c = λ z.
    let rest = c.loop-reached.rest.now in
    let (j, at, runs) = c.loop-reached.invariant.runs in
    let left = rw c.in-Err.is at c.read_from.ensures.reached j at in
    let n = c.in-Err.left.at in
    let b = c.in-Some.byte.now in
    let after = c.in-Some.after.now in
    let more : drop n rest ≡ b ∷ after = sym (take_rest rest n) ∙ (rw c.in-Some.is at c.split_first.ensures.cases).0 in
    let (j', at', finds) = left.row in
    let step = c.leave-step.ensures.step j' at' in
    let (k, low, a) = step.marks.0 c.if-step.true in
    (k, (runs z k).0 ((rw more at finds z k).0 (low, inr ([], b ∷ after ++ z, refl, a))))

pub returns-in_default-next-clause-reached : goal.returns-in_default-next-clause-reached
returns-in_default-next-clause-reached c = λ z k found.
    let d = c.args.dfa.now in
    let m = d.run in
    let rows = c.loop-reached.rows in
    let rest = c.loop-reached.rest.now in
    let (j, at, runs) = c.loop-reached.invariant.runs in
    let left = rw c.in-Err.is at c.read_from.ensures.reached j at in
    let n = c.in-Err.left.at in
    let b = c.in-Some.byte.now in
    let after = c.in-Some.after.now in
    let more : drop n rest ≡ b ∷ after = sym (take_rest rest n) ∙ (rw c.in-Some.is at c.split_first.ensures.cases).0 in
    let (j', at', finds) = left.row in
    let step = c.leave-step.ensures.step j' at' in
    let dead = rw c.in_default-next.is at step.next in
    let (low, a) = (at_dead (half m) (AcceptsRow m rows j') b dead (after ++ z) k).0 ((rw more at finds z k).1 ((runs z k).1 found)) in
    true≢false (sym (step.marks.1 (k, low, a)) ∙ c.if-step.false)

pub returns-then-step-clause-visits : goal.returns-then-step-clause-visits
returns-then-step-clause-visits c =
    let d = c.args.dfa.now in
    let m = d.run in
    let inv = c.loop-reached.invariant in
    let rest = c.loop-reached.rest.now in
    let (j, at, runs) = inv.runs in
    let left = rw c.in-Err.is at c.read_from.ensures.reached j at in
    let n = c.in-Err.left.at in
    let after = c.in-Some.after.now in
    let more = sym (take_rest rest n) ∙ (rw c.in-Some.is at c.split_first.ensures.cases).0 in
    let whole : length rest ≡ length after + n + 1 = omega (arith, length-drop n rest, ap length more, left.within) in
    let h = visits_left (length after) n (size m + 1) c.loop-reached.visits c.read_from.new.visits c.leave-step.new.visits _ (omega arith) c.in-Err.ensures.visits (omega (arith, c.leave-step.ensures.visits)) (rw whole at inv.visits) in
    omega (arith, h)

pub returns-in_default-next-clause-visits : goal.returns-in_default-next-clause-visits
returns-in_default-next-clause-visits c =
    let d = c.args.dfa.now in
    let m = d.run in
    let inv = c.loop-reached.invariant in
    let rest = c.loop-reached.rest.now in
    let (j, at, runs) = inv.runs in
    let left = rw c.in-Err.is at c.read_from.ensures.reached j at in
    let n = c.in-Err.left.at in
    let after = c.in-Some.after.now in
    let more = sym (take_rest rest n) ∙ (rw c.in-Some.is at c.split_first.ensures.cases).0 in
    let whole : length rest ≡ length after + n + 1 = omega (arith, length-drop n rest, ap length more, left.within) in
    let h = visits_left (length after) n (size m + 1) c.loop-reached.visits c.read_from.new.visits c.leave-step.new.visits _ (omega arith) c.in-Err.ensures.visits (omega (arith, c.leave-step.ensures.visits)) (rw whole at inv.visits) in
    omega (arith, h)

pub read_stepped-requires-clause-row : goal.read_stepped-requires-clause-row
read_stepped-requires-clause-row c =
    let rest = c.loop-reached.rest.now in
    let (j, at, runs) = c.loop-reached.invariant.runs in
    let left = rw c.in-Err.is at c.read_from.ensures.reached j at in
    let (j', at', finds) = left.row in
    let (next, there, goes) = rw c.in-Some-next.is at (c.leave-step.ensures.step j' at').next in
    (next, there)

pub returns-in-Ok-read_stepped-clause-reached : goal.returns-in-Ok-read_stepped-clause-reached
returns-in-Ok-read_stepped-clause-reached c =
    let d = c.args.dfa.now in
    let m = d.run in
    let rows = c.loop-reached.rows in
    let inv = c.loop-reached.invariant in
    let rest = c.loop-reached.rest.now in
    let (j, at, runs) = inv.runs in
    let left = rw c.in-Err.is at c.read_from.ensures.reached j at in
    let n = c.in-Err.left.at in
    let b = c.in-Some.byte.now in
    let after = c.in-Some.after.now in
    let more : drop n rest ≡ b ∷ after = sym (take_rest rest n) ∙ (rw c.in-Some.is at c.split_first.ensures.cases).0 in
    let (j', at', finds) = left.row in
    let step = c.leave-step.ensures.step j' at' in
    let (next, there, goes) = rw c.in-Some-next.is at step.next in
    read_on d c.read_stepped.new.self (AcceptsRow m c.leave-step.new.self next) (IsReached m) after c.args.text.now c.in-Ok-read_stepped.reached
    (λ z k. iff_trans (iff_trans (at_quiet (half m) (AcceptsRow m rows j') (AcceptsRow m c.leave-step.new.self next) b goes
    (λ d low a. true≢false (sym (step.marks.1 (d, low, a)) ∙ c.if-step.false)) (after ++ z) k) (rw more at finds z k)) (runs z k))
    (rw c.in-Ok-read_stepped.is at c.read_stepped.ensures.reached next there)

pub returns-in-Ok-read_stepped-clause-visits : goal.returns-in-Ok-read_stepped-clause-visits
returns-in-Ok-read_stepped-clause-visits c =
    let d = c.args.dfa.now in
    let m = d.run in
    let inv = c.loop-reached.invariant in
    let rest = c.loop-reached.rest.now in
    let (j, at, runs) = inv.runs in
    let left = rw c.in-Err.is at c.read_from.ensures.reached j at in
    let n = c.in-Err.left.at in
    let after = c.in-Some.after.now in
    let more = sym (take_rest rest n) ∙ (rw c.in-Some.is at c.split_first.ensures.cases).0 in
    let w = size m + 1 in
    let whole : length rest ≡ length after + n + 1 = omega (arith, length-drop n rest, ap length more, left.within) in
    let before = visits_left (length after) n w c.loop-reached.visits c.read_from.new.visits c.leave-step.new.visits _ (omega arith) c.in-Err.ensures.visits (omega (arith, c.leave-step.ensures.visits)) (rw whole at inv.visits) in
    omega (arith, before, rw c.in-Ok-read_stepped.is at c.read_stepped.ensures.visits)

pub slice_bounds-rest-count : goal.slice_bounds-rest-count
slice_bounds-rest-count c =
    let rest = c.loop-reached.rest.now in
    let (j, at, runs) = c.loop-reached.invariant.runs in
    let left = rw c.in-Err.is at c.read_from.ensures.reached j at in
    let (j', at', finds) = left.row in
    let (next, there, goes) = rw c.in-Some-next.is at (c.leave-step.ensures.step j' at').next in
    (rw c.in-Err-read_stepped.is at c.read_stepped.ensures.reached next there).within

pub slice_bounds-rest-start : goal.slice_bounds-rest-start
slice_bounds-rest-start c =
    let rest = c.loop-reached.rest.now in
    let (j, at, runs) = c.loop-reached.invariant.runs in
    let left = rw c.in-Err.is at c.read_from.ensures.reached j at in
    let (j', at', finds) = left.row in
    let (next, there, goes) = rw c.in-Some-next.is at (c.leave-step.ensures.step j' at').next in
    (rw c.in-Err-read_stepped.is at c.read_stepped.ensures.reached next there).within

pub loop-reached-preserved : goal.loop-reached-preserved
loop-reached-preserved c =
    let d = c.args.dfa.now in
    let m = d.run in
    let rows = c.loop-reached.rows in
    let inv = c.loop-reached.invariant in
    let rest = c.loop-reached.rest.now in
    let (j, at, runs) = inv.runs in
    let left = rw c.in-Err.is at c.read_from.ensures.reached j at in
    let n = c.in-Err.left.at in
    let b = c.in-Some.byte.now in
    let after = c.in-Some.after.now in
    let more : drop n rest ≡ b ∷ after = sym (take_rest rest n) ∙ (rw c.in-Some.is at c.split_first.ensures.cases).0 in
    let (j', at', finds) = left.row in
    let step = c.leave-step.ensures.step j' at' in
    let (next, there, goes) = rw c.in-Some-next.is at step.next in
    let w = size m + 1 in
    let whole : length rest ≡ length after + n + 1 = omega (arith, length-drop n rest, ap length more, left.within) in
    let before = visits_left (length after) n w c.loop-reached.visits c.read_from.new.visits c.leave-step.new.visits _ (omega arith) c.in-Err.ensures.visits (omega (arith, c.leave-step.ensures.visits)) (rw whole at inv.visits) in
    let p = c.in-Err-read_stepped.left.at in
    let stepped = rw c.in-Err-read_stepped.is at c.read_stepped.ensures.reached next there in
    let (last, here, finds') = stepped.row in
    let parts : length after ≡ length (drop p after) + p = omega (arith, length-drop p after, stepped.within) in
    rw (take_rest after p) record {
      sound = c.read_stepped.ensures.sound;
      fits = c.read_stepped.ensures.fits;
      runs = (
        last,
        here,
        λ z k. iff_trans (finds' z k) (iff_trans (iff_trans (at_quiet (half m) (AcceptsRow m rows j') (AcceptsRow m c.leave-step.new.self next) b goes
            (λ d low a. true≢false (sym (step.marks.1 (d, low, a)) ∙ c.if-step.false)) (after ++ z) k) (rw more at finds z k)) (runs z k)),
      );
      visits = visits_stepped (length (drop p after)) p w c.leave-step.new.visits c.read_stepped.new.visits _ (rw parts at before) c.in-Err-read_stepped.ensures.visits;
      counted = omega (arith, inv.counted, c.read_from.ensures.counted, c.leave-step.ensures.counted, c.read_stepped.ensures.counted);
    }
