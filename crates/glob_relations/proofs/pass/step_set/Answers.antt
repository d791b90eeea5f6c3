use Rattle.std.proofs.Common.{◌∷◌, false, arith, refl, ◌∙◌}
use Rattle.bit_sets.specs.StateSets.{has_state}
use Rattle.byte_nfa.specs.Runs.{size}
use Rattle.byte_nfa.specs.Steps.{state}
use Rattle.byte_nfa.proofs.lemmas.Pass.{iff_trans, none_swept, read_taken, rest_passed, quiet_step, next_position}
use Rattle.glob_relations.proofs.pass.step_set.Goals as goal

pub loop-s-preserved : goal.loop-s-preserved
loop-s-preserved c =
    let inv = c.loop-s.invariant in
    let (lt, at, between) = c.in-Some.ensures.found in
    let s = c.in-Some.s in
    let a = c.args.automaton.now.states in
    let b = c.args.byte in
    let took = c.take.ensures in
    record {
      within = omega (arith, lt, inv.within);
      from_capacity = took.from_capacity ∙ inv.from_capacity;
      to_capacity = took.to_capacity ∙ inv.to_capacity;
      steps = λ y k. iff_trans (inv.steps y k) (read_taken a s c.loop-s.limit k (b ∷ y) (has_state c.loop-s.from) (has_state c.loop-s.to) (λ _. false) (has_state c.take.new.from) (has_state c.take.new.to) (λ _. false)
          lt between at took.below took.from took.to (λ t. quiet_step (state a s) b t));
    }

pub returns-clause-steps : goal.returns-clause-steps
returns-clause-steps c = λ y k.
    iff_trans (c.loop-s.invariant.steps y k)
    (iff_trans (rest_passed c.args.automaton.now.states c.loop-s.limit k (c.args.byte ∷ y) (has_state c.loop-s.from) (has_state c.loop-s.to) (λ _. false) c.in_default.ensures.found)
    (next_position c.args.automaton.now.states (has_state c.loop-s.from) (has_state c.loop-s.to) (λ _. false) c.args.byte y k))
