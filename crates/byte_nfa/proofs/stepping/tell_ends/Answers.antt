use Rattle.std.proofs.Common.{◌≡◌, ℕ, ◌+◌, ◌<◌, ◌≤◌, ◌⊎◌, inl, inr, Bool, false, Some, IsTrue, true≢false, ap, sym, subst, arith, ◌∙◌}
use Rattle.std.specs.Prelude.{◌↔◌}
use Rattle.std.proofs.lemmas.Bool.{cases_lt}
use Rattle.std.proofs.Math.Logic.{⊎_elim}
use Rattle.bit_sets.specs.Indexes.{has_index}
use Rattle.byte_nfa.proofs.lemmas.Pass.{iff_trans}
use Rattle.byte_nfa.proofs.lemmas.Told.{told_more}
use Rattle.byte_nfa.proofs.stepping.tell_ends.Goals as goal

-- the next index of a set, and those after it
next_of : (set : ℕ → Bool) (at index j : ℕ) → at ≤ index → IsTrue (set index) → ((k : ℕ) → at ≤ k → k < index → set k ≡ false)
    → ((at ≤ j) × IsTrue (set j)) ↔ (((index + 1 ≤ j) × IsTrue (set j)) ⊎ (Some index ≡ Some j))
next_of set at index j low has between = (there, ⊎_elim {C = (at ≤ j) × IsTrue (set j)} (λ (le, on). (omega arith, on)) (λ e. let same : index ≡ j = cc in (omega arith, subst (λ i. IsTrue (set i)) same has)))
  where
    there : (at ≤ j) × IsTrue (set j) → ((index + 1 ≤ j) × IsTrue (set j)) ⊎ (Some index ≡ Some j)
    there (le, on) = ⊎_elim {C = ((index + 1 ≤ j) × IsTrue (set j)) ⊎ (Some index ≡ Some j)} (λ under. absurd (true≢false (sym on ∙ between j le under)))
        (λ over. ⊎_elim {C = ((index + 1 ≤ j) × IsTrue (set j)) ⊎ (Some index ≡ Some j)} (λ above. inl (omega arith, on)) (λ not. let same : index ≡ j = omega arith in inr (ap Some same)) (cases_lt index j)) (cases_lt j index)

pub loop-index-preserved : goal.loop-index-preserved
loop-index-preserved c =
    let inv = c.loop-index.invariant in
    let set = has_index c.args.ends.now in
    let (low, high, has, between) = c.in-Some.ensures in
    let at = c.loop-index.at in
    record {
      low = omega (arith, low, inv.low);
      room = c.put.ensures.room ∙ inv.room;
      has = λ k. iff_trans (inv.has k) (told_more c.args.half (λ i. (at ≤ i) × IsTrue (set i)) c.args.lowest k (has_index c.loop-index.into k) _ c.in-Some.index c.told_by.result (has_index c.put.new.self k)
          (λ j le. next_of set at c.in-Some.index j low has between) (omega (arith, low, inv.low)) high c.told_by.ensures (c.put.ensures.has k));
    }
