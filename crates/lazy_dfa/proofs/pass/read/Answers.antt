use Rattle.std.proofs.Common.{[], ◌∷◌, false, arith, ◌∙◌}
use Rattle.bit_sets.specs.Numbers.{has_number}
use Rattle.bit_sets.specs.Indexes.{has_index}
use Rattle.bit_sets.specs.StateSets.{has_state}
use Rattle.byte_nfa.specs.Steps.{state}
use Rattle.byte_nfa.proofs.lemmas.Pass.{iff_trans, read_taken, rest_passed, quiet_step, stays_at_end, next_position, accepts_within}
use Rattle.lazy_dfa.proofs.pass.read.Goals as goal

pub loop-s-preserved : goal.loop-s-preserved
loop-s-preserved c =
    let inv = c.loop-s.invariant in
    let (lt, at, between) = c.in-Some.ensures.found in
    let s = c.in-Some.s in
    let a = c.args.automaton.now.states in
    let st = state a s in
    let limit = c.loop-s.limit in
    let b = c.args.byte in
    let took = c.take.ensures in
    record {
      within = omega (arith, lt);
      from_capacity = took.from_capacity ∙ inv.from_capacity;
      to_capacity = omega (arith, took.to_capacity, inv.to_capacity);
      below = took.to_below;
      few = omega (arith, lt, took.few, inv.few);
      ends_capacity = took.ends_capacity ∙ inv.ends_capacity;
      steps = λ y k. iff_trans (inv.steps y k) (read_taken a s limit k (b ∷ y) (has_state c.loop-s.from) (λ t. has_number t c.loop-s.to.items) (λ _. false) (has_state c.take.new.from) (λ t. has_number t c.take.new.to.items) (λ _. false)
          lt between at took.below took.from took.to (λ t. quiet_step st b t));
      ends = λ k. iff_trans (inv.ends k) (read_taken a s limit k [] (has_state c.loop-s.from) (λ _. false) (has_index c.loop-s.ends) (has_state c.take.new.from) (λ _. false) (has_index c.take.new.ends)
          lt between at took.below took.from (λ t. stays_at_end st s t) took.ends);
      visits = omega (arith, inv.visits, c.in-Some.ensures.visits);
      counted = omega (arith, took.few, inv.counted, c.in-Some.ensures.counted);
    }

pub returns-clause-steps : goal.returns-clause-steps
returns-clause-steps c = λ y k.
    iff_trans (c.loop-s.invariant.steps y k)
    (iff_trans (rest_passed c.args.automaton.now.states c.loop-s.limit k (c.args.byte ∷ y) (has_state c.loop-s.from) (λ t. has_number t c.loop-s.to.items) (λ _. false) c.in_default.ensures.found)
    (iff_trans (next_position c.args.automaton.now.states (has_state c.loop-s.from) (λ t. has_number t c.loop-s.to.items) (λ _. false) c.args.byte y k)
    (λ (t, lt, at, h). (t, at, h), λ (t, at, h). (t, accepts_within c.args.automaton.now.states k t y h, at, h))))
