use Rattle.std.proofs.Common.{◌≡◌, ℕ, ap, ◌+◌, ◌-◌, ◌<◌, ◌∷◌, [], inr, IsTrue, true≢false, drop, length, get_or, refl, arith, sym, ◌∙◌}
use Rattle.std.proofs.lemmas.List.{drop_more, drop_all, length-drop, take_rest}
use Rattle.std.proofs.Math.Logic.{⊎_elim}
use Rattle.bit_sets.specs.Indexes.{has_index}
use Rattle.byte_nfa.specs.Runs.{size}
use Rattle.byte_nfa.specs.Steps.{IsReached}
use Rattle.byte_nfa.proofs.lemmas.Pass.{iff_trans}
use Rattle.byte_nfa.specs.EarlyMatches.{half}
use Rattle.lazy_dfa.specs.inner.Rows.{AcceptsRow}
use Rattle.byte_nfa.proofs.lemmas.Finding.{iff_beside, finds_same, next_found, dead_found, last_told, none_last, visits_left, visits_stepped}
use Rattle.bit_sets.proofs.lemmas.Texts.{all_bytes}
use Rattle.std.proofs.lemmas.Nat.{mul-le}
use Rattle.lazy_dfa.specs.DfaValue.{DfaValue}
use Rattle.lazy_dfa.proofs.lemmas.Reading.{bound_as, reads_as}
use Rattle.lazy_dfa.proofs.lemmas.Rows.{never_found}
use Rattle.lazy_dfa.proofs.cache.Cache.find.Goals as goal
use Rattle.lazy_dfa.proofs.cache.Cache.find.Goals.{then-finish, else-finish}

pub returns-then-state_count-eq0-clause-found : goal.returns-then-state_count-eq0-clause-found
returns-then-state_count-eq0-clause-found c = λ k.
    let d = c.deref-dfa.result.now in
    let is = ap (λ (x : DfaValue). x.nfa) c.deref-dfa.ensures ∙ c.self.view_is in
    let source = reads_as d c.args.self.now (rw c.deref-dfa.ensures c.self.invariant.0.dfa) is c.args.text.now (all_bytes c.args.text.now (λ j. (c.type_inv.text j).fits)) in
    let none : size d.run ≡ 0 = sym c.state_count.ensures ∙ c.if-state_count-eq0.true in
    (λ h. inr h, ⊎_elim {C = IsTrue (has_index c.args.found.now k)} (λ r. absurd (never_found d.run none c.args.text.now k ((source k).1 r))) (λ h. h))

pub loop-left-init : goal.loop-left-init
loop-left-init c = record {
  sound = c.start-place.ensures.sound;
  fits = rw (c.deref-dfa.ensures, c.deref_mut-pass.ensures.value) c.self.invariant.1;
  room = refl;
  runs =
      let m = c.deref-dfa.result.now.run in
      let (j, at, begins) = c.start-place.ensures.begins in
      (j, at, λ k. iff_beside (finds_same (half m) (AcceptsRow m c.start-place.new.self j) (IsReached m) begins c.args.text.now k));
  visits = omega arith;
  counted = omega arith;
}

pub returns-in_default-clause-found : goal.returns-in_default-clause-found
returns-in_default-clause-found c = λ k.
    let d = c.deref-dfa.result.now in
    let is = ap (λ (x : DfaValue). x.nfa) c.deref-dfa.ensures ∙ c.self.view_is in
    let source = reads_as d c.args.self.now c.loop-left.invariant.sound.dfa is c.args.text.now (all_bytes c.args.text.now (λ j. (c.type_inv.text j).fits)) in
    let (j, at, runs) = c.loop-left.invariant.runs in
    iff_trans ((rw c.in_default.is at c.find_from.ensures.found j at) k) (iff_trans (runs k) (iff_beside (source k)))

pub returns-in_default-clause-visits : goal.returns-in_default-clause-visits
returns-in_default-clause-visits c =
    let d = c.deref-dfa.result.now in
    let is = ap (λ (x : DfaValue). x.nfa) c.deref-dfa.ensures ∙ c.self.view_is in
    let bound = bound_as d c.args.self.now c.loop-left.invariant.sound.dfa is (length c.args.text.now + 1) in
    let rest = length c.loop-left.rest.now in
    let each = mul-le rest 1 rest (size d.run + 1) (omega arith) (omega arith) in
    omega (arith, bound, each, c.loop-left.invariant.visits, c.in_default.ensures.visits)

pub invariant_of-self-then-left-rest : goal.invariant_of-self-then-left-rest
invariant_of-self-then-left-rest c =
    let sound = rw c.deref-dfa.ensures at c.finish.ensures.sound in
    let fits = rw c.deref-dfa.ensures at c.finish.ensures.fits in
    elim c.if-finish.branch [ then-finish w ↦ rw w.self-inside-is (sound, fits) | else-finish w ↦ rw w.self-inside-is (sound, fits) ]

pub returns-then-left-rest-clause-found : goal.returns-then-left-rest-clause-found
returns-then-left-rest-clause-found c = λ k.
    let d = c.deref-dfa.result.now in
    let is = ap (λ (x : DfaValue). x.nfa) c.deref-dfa.ensures ∙ c.self.view_is in
    let source = reads_as d c.args.self.now c.loop-left.invariant.sound.dfa is c.args.text.now (all_bytes c.args.text.now (λ j. (c.type_inv.text j).fits)) in
    let m = d.run in
    let rows = c.loop-left.rows in
    let rest = c.loop-left.rest.now in
    let (j, at, runs) = c.loop-left.invariant.runs in
    let left = rw c.in-Some.is at c.find_from.ensures.found j at in
    let (j', at', finds) = left.row in
    let past : drop c.in-Some.left.at rest ≡ [] = drop_all c.in-Some.left.at rest (omega arith) in
    let whole = iff_trans (rw past at finds k) (iff_trans (runs k) (iff_beside (source k))) in
    elim c.if-finish.branch [
      | then-finish w ↦
          let told = rw c.half-half.ensures at w.tell_ends.ensures.has in
          rw w.found-is (iff_trans (told k) (iff_trans (iff_beside (last_told (half m) (AcceptsRow m rows j') _ (c.finish.ensures.ends j' at') k)) whole))
      | else-finish w ↦
          let none = none_last (half m) (AcceptsRow m rows j') (λ e lt a. true≢false (sym ((c.finish.ensures.some j' at').1 (e, lt, a)) ∙ w.if-finish.false)) k in
          rw w.found-is (iff_trans (λ h. inr h, ⊎_elim {C = IsTrue (has_index c.find_from.new.found k)} (λ f. absurd (none f)) (λ h. h)) whole)
    ]

pub returns-then-left-rest-clause-visits : goal.returns-then-left-rest-clause-visits
returns-then-left-rest-clause-visits c =
    let d = c.deref-dfa.result.now in
    let is = ap (λ (x : DfaValue). x.nfa) c.deref-dfa.ensures ∙ c.self.view_is in
    let bound = bound_as d c.args.self.now c.loop-left.invariant.sound.dfa is (length c.args.text.now + 1) in
    let rest = length c.loop-left.rest.now in
    let each = mul-le rest 1 rest (size d.run + 1) (omega arith) (omega arith) in
    omega (arith, bound, each, c.loop-left.invariant.visits, c.in-Some.ensures.visits, c.if-left-rest.true, c.finish.ensures.visits)

pub leave-step-requires-clause-row : goal.leave-step-requires-clause-row
leave-step-requires-clause-row c =
    let (j, at, runs) = c.loop-left.invariant.runs in
    let left = rw c.in-Some.is at c.find_from.ensures.found j at in
    let (j', at', finds) = left.row in
    (j', at')

pub returns-in_default-next-clause-found : goal.returns-in_default-next-clause-found
returns-in_default-next-clause-found c = λ k.
    let d = c.deref-dfa.result.now in
    let is = ap (λ (x : DfaValue). x.nfa) c.deref-dfa.ensures ∙ c.self.view_is in
    let source = reads_as d c.args.self.now c.loop-left.invariant.sound.dfa is c.args.text.now (all_bytes c.args.text.now (λ j. (c.type_inv.text j).fits)) in
    let m = d.run in
    let rows = c.loop-left.rows in
    let rest = c.loop-left.rest.now in
    let (j, at, runs) = c.loop-left.invariant.runs in
    let left = rw c.in-Some.is at c.find_from.ensures.found j at in
    let n = c.in-Some.left.at in
    let lt : n < length rest = omega (arith, left.within) in
    let b : ℕ = get_or rest n 0 in
    let after = drop (n + 1) rest in
    let more : drop n rest ≡ b ∷ after = drop_more rest n 0 lt in
    let (j', at', finds) = left.row in
    let step = c.leave-step.ensures.step j' at' in
    let ended = c.leave-step.ensures.ends j' at' in
    let dead = rw c.in_default-next.is at step.next in
    let told = rw c.half-half.ensures at c.tell_ends-in-loop-left.ensures.has in
    iff_trans (dead_found (half m) (AcceptsRow m rows j') (has_index c.leave-step.new.pass.ends) ended
    b dead after k (has_index c.find_from.new.found k) (has_index c.tell_ends-in-loop-left.new.into k) _ (told k) (rw more at finds k)) (iff_trans (runs k) (iff_beside (source k)))

pub returns-in_default-next-clause-visits : goal.returns-in_default-next-clause-visits
returns-in_default-next-clause-visits c =
    let d = c.deref-dfa.result.now in
    let is = ap (λ (x : DfaValue). x.nfa) c.deref-dfa.ensures ∙ c.self.view_is in
    let bound = bound_as d c.args.self.now c.loop-left.invariant.sound.dfa is (length c.args.text.now + 1) in
    let m = d.run in
    let inv = c.loop-left.invariant in
    let rest = c.loop-left.rest.now in
    let (j, at, runs) = inv.runs in
    let left = rw c.in-Some.is at c.find_from.ensures.found j at in
    let n = c.in-Some.left.at in
    let lt : n < length rest = omega (arith, left.within) in
    let after = drop (n + 1) rest in
    let len : length after ≡ length rest - (n + 1) = length-drop (n + 1) rest in
    let whole : length rest ≡ length after + n + 1 = omega (arith, len, lt) in
    let before = visits_left (length after) n (size m + 1) c.loop-left.visits c.find_from.new.visits c.leave-step.new.visits _ (omega arith) c.in-Some.ensures.visits (omega (arith, c.leave-step.ensures.visits)) (rw whole at inv.visits) in
    omega (arith, bound, before)

pub slice_bounds-rest-count : goal.slice_bounds-rest-count
slice_bounds-rest-count c =
    let (j, at, runs) = c.loop-left.invariant.runs in
    let left = rw c.in-Some.is at c.find_from.ensures.found j at in
    omega (arith, left.within, c.if-left-rest.false)

pub slice_bounds-rest-start : goal.slice_bounds-rest-start
slice_bounds-rest-start c =
    let (j, at, runs) = c.loop-left.invariant.runs in
    let left = rw c.in-Some.is at c.find_from.ensures.found j at in
    omega (arith, left.within, c.if-left-rest.false)

pub find_stepped-requires-clause-row : goal.find_stepped-requires-clause-row
find_stepped-requires-clause-row c =
    let (j, at, runs) = c.loop-left.invariant.runs in
    let left = rw c.in-Some.is at c.find_from.ensures.found j at in
    let (j', at', finds) = left.row in
    let (next, there, goes) = rw c.in-Some-next.is at (c.leave-step.ensures.step j' at').next in
    (next, there)

pub returns-in_default-find_stepped-clause-found : goal.returns-in_default-find_stepped-clause-found
returns-in_default-find_stepped-clause-found c = λ k.
    let d = c.deref-dfa.result.now in
    let is = ap (λ (x : DfaValue). x.nfa) c.deref-dfa.ensures ∙ c.self.view_is in
    let source = reads_as d c.args.self.now c.loop-left.invariant.sound.dfa is c.args.text.now (all_bytes c.args.text.now (λ j. (c.type_inv.text j).fits)) in
    let m = d.run in
    let rows = c.loop-left.rows in
    let inv = c.loop-left.invariant in
    let rest = c.loop-left.rest.now in
    let (j, at, runs) = inv.runs in
    let left = rw c.in-Some.is at c.find_from.ensures.found j at in
    let n = c.in-Some.left.at in
    let lt : n < length rest = omega (arith, left.within) in
    let b : ℕ = get_or rest n 0 in
    let after = drop (n + 1) rest in
    let more : drop n rest ≡ b ∷ after = drop_more rest n 0 lt in
    let past = take_rest rest (n + 1) in
    let (j', at', finds) = left.row in
    let step = c.leave-step.ensures.step j' at' in
    let ended = c.leave-step.ensures.ends j' at' in
    let (next, there, goes) = rw c.in-Some-next.is at step.next in
    let told = rw c.half-half.ensures at c.tell_ends-in-loop-left.ensures.has in
    iff_trans ((rw (c.in_default-find_stepped.is, past) at c.find_stepped.ensures.found next there) k) (iff_trans (next_found (half m) (AcceptsRow m rows j') (has_index c.leave-step.new.pass.ends) ended
    (AcceptsRow m c.leave-step.new.self next) b goes after k (has_index c.find_from.new.found k) (has_index c.tell_ends-in-loop-left.new.into k) _ (told k) (rw more at finds k)) (iff_trans (runs k) (iff_beside (source k))))

pub returns-in_default-find_stepped-clause-visits : goal.returns-in_default-find_stepped-clause-visits
returns-in_default-find_stepped-clause-visits c =
    let d = c.deref-dfa.result.now in
    let is = ap (λ (x : DfaValue). x.nfa) c.deref-dfa.ensures ∙ c.self.view_is in
    let bound = bound_as d c.args.self.now c.loop-left.invariant.sound.dfa is (length c.args.text.now + 1) in
    let m = d.run in
    let inv = c.loop-left.invariant in
    let rest = c.loop-left.rest.now in
    let (j, at, runs) = inv.runs in
    let left = rw c.in-Some.is at c.find_from.ensures.found j at in
    let n = c.in-Some.left.at in
    let lt : n < length rest = omega (arith, left.within) in
    let after = drop (n + 1) rest in
    let w = size m + 1 in
    let len : length after ≡ length rest - (n + 1) = length-drop (n + 1) rest in
    let whole : length rest ≡ length after + n + 1 = omega (arith, len, lt) in
    let before = visits_left (length after) n w c.loop-left.visits c.find_from.new.visits c.leave-step.new.visits _ (omega arith) c.in-Some.ensures.visits (omega (arith, c.leave-step.ensures.visits)) (rw whole at inv.visits) in
    let stepped = rw (c.in_default-find_stepped.is, take_rest rest (n + 1)) at c.find_stepped.ensures.visits in
    omega (arith, bound, before, stepped)

pub slice_bounds-rest-count-in-loop-left : goal.slice_bounds-rest-count-in-loop-left
slice_bounds-rest-count-in-loop-left c =
    let (j, at, runs) = c.loop-left.invariant.runs in
    let left = rw c.in-Some.is at c.find_from.ensures.found j at in
    let (j', at', finds) = left.row in
    let (next, there, goes) = rw c.in-Some-next.is at (c.leave-step.ensures.step j' at').next in
    (rw c.in-Some-find_stepped.is at c.find_stepped.ensures.found next there).within

pub slice_bounds-rest-start-in-loop-left : goal.slice_bounds-rest-start-in-loop-left
slice_bounds-rest-start-in-loop-left c =
    let (j, at, runs) = c.loop-left.invariant.runs in
    let left = rw c.in-Some.is at c.find_from.ensures.found j at in
    let (j', at', finds) = left.row in
    let (next, there, goes) = rw c.in-Some-next.is at (c.leave-step.ensures.step j' at').next in
    (rw c.in-Some-find_stepped.is at c.find_stepped.ensures.found next there).within

pub loop-left-smaller : goal.loop-left-smaller
loop-left-smaller c =
    let rest = c.loop-left.rest.now in
    let (j, at, runs) = c.loop-left.invariant.runs in
    let left = rw c.in-Some.is at c.find_from.ensures.found j at in
    let n = c.in-Some.left.at in
    let p = c.in-Some-find_stepped.left.at in
    let lt : n < length rest = omega (arith, left.within) in
    let after = drop (n + 1) rest in
    rw (take_rest rest (n + 1), take_rest after p) (omega (arith, length-drop p after, length-drop (n + 1) rest, lt))

pub loop-left-preserved : goal.loop-left-preserved
loop-left-preserved c =
    let d = c.deref-dfa.result.now in
    let m = d.run in
    let rows = c.loop-left.rows in
    let inv = c.loop-left.invariant in
    let rest = c.loop-left.rest.now in
    let (j, at, runs) = inv.runs in
    let left = rw c.in-Some.is at c.find_from.ensures.found j at in
    let n = c.in-Some.left.at in
    let lt : n < length rest = omega (arith, left.within) in
    let b : ℕ = get_or rest n 0 in
    let after = drop (n + 1) rest in
    let more : drop n rest ≡ b ∷ after = drop_more rest n 0 lt in
    let past = take_rest rest (n + 1) in
    let (j', at', finds) = left.row in
    let step = c.leave-step.ensures.step j' at' in
    let ended = c.leave-step.ensures.ends j' at' in
    let (next, there, goes) = rw c.in-Some-next.is at step.next in
    let told = rw c.half-half.ensures at c.tell_ends-in-loop-left.ensures.has in
    let w = size m + 1 in
    let len : length after ≡ length rest - (n + 1) = length-drop (n + 1) rest in
    let whole : length rest ≡ length after + n + 1 = omega (arith, len, lt) in
    let before = visits_left (length after) n w c.loop-left.visits c.find_from.new.visits c.leave-step.new.visits _ (omega arith) c.in-Some.ensures.visits (omega (arith, c.leave-step.ensures.visits)) (rw whole at inv.visits) in
    let p = c.in-Some-find_stepped.left.at in
    let stepped = rw (c.in-Some-find_stepped.is, past) at c.find_stepped.ensures.found next there in
    let (last, here, finds') = stepped.row in
    let parts : length after ≡ length (drop p after) + p = omega (arith, length-drop p after, stepped.within) in
    rw (past, take_rest after p) record {
      sound = c.find_stepped.ensures.sound;
      fits = c.find_stepped.ensures.fits;
      room = c.find_stepped.ensures.room ∙ c.tell_ends-in-loop-left.ensures.room ∙ c.find_from.ensures.room ∙ inv.room;
      runs = (
        last,
        here,
        λ k. iff_trans (finds' k) (iff_trans (next_found (half m) (AcceptsRow m rows j') (has_index c.leave-step.new.pass.ends) ended
            (AcceptsRow m c.leave-step.new.self next) b goes after k (has_index c.find_from.new.found k) (has_index c.tell_ends-in-loop-left.new.into k) _ (told k) (rw more at finds k)) (runs k)),
      );
      visits = visits_stepped (length (drop p after)) p w c.leave-step.new.visits c.find_stepped.new.visits _ (rw parts at before) c.in-Some-find_stepped.ensures.visits;
      counted = omega (arith, inv.counted, c.find_from.ensures.counted, c.leave-step.ensures.counted, c.find_stepped.ensures.counted);
    }

pub finish-requires-clause-row : goal.finish-requires-clause-row
finish-requires-clause-row c =
    let (j, at, runs) = c.loop-left.invariant.runs in
    let left = rw c.in-Some.is at c.find_from.ensures.found j at in
    let (j', at', finds) = left.row in
    (j', at')
