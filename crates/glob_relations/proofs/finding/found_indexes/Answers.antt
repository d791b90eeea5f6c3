use Rattle.std.proofs.Common.{◌≡◌, ℕ, ◌+◌, ◌≤◌, List, [], ◌∷◌, drop, sym, ap, subst, ◌∙◌, arith, true≢false, inl}
use Rattle.std.specs.Prelude.{◌↔◌, slice_index}
use Rattle.std.proofs.lemmas.List.{drop_more, drop_all}
use Rattle.std.proofs.Math.Logic.{⊎_elim}
use Rattle.bit_sets.specs.StateSets.{state_capacity}
use Rattle.byte_nfa.specs.Runs.{size, AcceptsFrom}
use Rattle.byte_nfa.specs.Steps.{IsReached}
use Rattle.glob_relations.proofs.finding.found_indexes.Goals as goal

pub loop-byte-init : goal.loop-byte-init
loop-byte-init c = record {
  from = subst (λ (n : ℕ). size c.args.automaton.now ≤ n) (sym c.start.ensures.room)
      (subst (λ (n : ℕ). n ≤ state_capacity c.in_ok-from.from) c.state_count.ensures c.in_ok-from.ensures.room);
  to = subst (λ (n : ℕ). n ≤ state_capacity c.in_ok-to.to) c.state_count-2.ensures c.in_ok-to.ensures.room;
  reached = λ k. c.start.ensures.starts c.args.path.now k;
}

pub loop-byte-preserved : goal.loop-byte-preserved
loop-byte-preserved c =
    let inv = c.loop-byte.invariant in
    let m = c.args.automaton.now in
    let i = c.loop-byte.byte-index in
    let path : List ℕ = c.args.path.now in
    let took = c.step_set.ensures in
    let more : drop i path ≡ slice_index path i ∷ drop (i + 1) path = drop_more path i 0 c.loop-byte-test.true in
    record {
      from = let same = ap state_capacity c.swap.ensures.x_after ∙ took.to_capacity in subst (λ (n : ℕ). size m ≤ n) (sym same) inv.to;
      to = let same = ap state_capacity c.swap.ensures.y_after ∙ took.from_capacity in subst (λ (n : ℕ). size m ≤ n) (sym same) inv.from;
      reached = λ k.
          let here = subst (λ (l : List ℕ). AcceptsFrom m c.loop-byte.from l k ↔ IsReached m path k) more (inv.reached k) in
          let step = took.steps (drop (i + 1) path) k in
          rw c.swap.ensures.x_after (λ h. here.0 (step.1 h), λ h. step.0 (here.1 h));
    }

pub returns : goal.returns
returns c = λ k.
    let m = c.args.automaton.now in
    let i = c.loop-byte.byte-index in
    let path : List ℕ = c.args.path.now in
    let past : drop i path ≡ [] = drop_all i path (omega arith) in
    let at_end : AcceptsFrom m c.loop-byte.from [] k ↔ IsReached m path k = subst (λ (l : List ℕ). AcceptsFrom m c.loop-byte.from l k ↔ IsReached m path k) past (c.loop-byte.invariant.reached k) in (
      λ has. ⊎_elim {C = IsReached m path k} (λ h. at_end.0 h) (λ old. absurd (true≢false (sym old ∙ c.in_ok-found.ensures.none k))) ((c.ends.ensures.ends k).0 has),
      λ reach. (c.ends.ensures.ends k).1 (inl (at_end.1 reach)),
    )
