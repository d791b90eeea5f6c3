use Rattle.std.proofs.Common.{◌∷◌, None, false, refl, sym, ◌∙◌, arith}
use Rattle.bit_sets.specs.StateSets.{has_state}
use Rattle.byte_nfa.specs.Steps.{state}
use Rattle.byte_nfa.proofs.lemmas.Pass.{iff_trans, read_taken, rest_passed, quiet_step, iff_sym}
use Rattle.byte_nfa.proofs.lemmas.Stepping.{no_end_is, no_end_more, ends_passed, end_taken, counted_taken}
use Rattle.byte_nfa.specs.inner.Stepping.{EndsBelow}
use Rattle.byte_nfa.proofs.stepping.next_end.Goals as goal

pub loop-s-preserved : goal.loop-s-preserved
loop-s-preserved c =
    let inv = c.loop-s.invariant in
    let (below, at, between) = c.in-Some.ensures.found in
    let s = c.in-Some.s in
    let a = c.args.automaton.now.states in
    let limit = c.loop-s.limit in
    let took = c.take-end.ensures in
    let from = c.take-end.new.from in
    let none = no_end_is c.take-end.result (sym c.is_some.ensures ∙ c.if-is_some.false) in
    record {
      within = omega (arith, below, inv.within);
      from_capacity = took.from_capacity ∙ inv.from_capacity;
      to_capacity = took.to_capacity ∙ inv.to_capacity;
      steps = λ b y k is. iff_trans (inv.steps b y k is) (read_taken a s limit k (b ∷ y) (has_state c.loop-s.from) (has_state c.loop-s.to) (λ _. false) (has_state from) (has_state c.take-end.new.to) (λ _. false)
          below between at took.below took.from (λ t. rw is at took.to t) (λ t. quiet_step (state a s) b t));
      ends = λ i le. iff_trans (inv.ends i le) (iff_trans (end_taken a s limit i (has_state c.loop-s.from) below between (has_state from) _ at took.below took.from (took.end i le))
          (no_end_more (EndsBelow c.args.automaton.now from s i) c.take-end.result i none));
      visits = omega (arith, inv.visits, c.in-Some.ensures.visits);
      counted = counted_taken (state a s) s c.args.byte (has_state c.args.to.now) (has_state c.loop-s.to) (has_state c.take-end.new.to) _ _ _ inv.counted c.in-Some.ensures.counted took.to;
    }

pub returns-then-is_some-clause-steps : goal.returns-then-is_some-clause-steps
returns-then-is_some-clause-steps c = λ b y k is.
    let (below, at, between) = c.in-Some.ensures.found in
    let s = c.in-Some.s in
    let a = c.args.automaton.now.states in
    let took = c.take-end.ensures in
    iff_trans (c.loop-s.invariant.steps b y k is) (read_taken a s c.loop-s.limit k (b ∷ y) (has_state c.loop-s.from) (has_state c.loop-s.to) (λ _. false) (has_state c.take-end.new.from) (has_state c.take-end.new.to) (λ _. false)
    below between at took.below took.from (λ t. rw is at took.to t) (λ t. quiet_step (state a s) b t))

pub returns-then-is_some-clause-ends : goal.returns-then-is_some-clause-ends
returns-then-is_some-clause-ends c = λ i le.
    let (below, at, between) = c.in-Some.ensures.found in
    let s = c.in-Some.s in
    let took = c.take-end.ensures in
    iff_trans (c.loop-s.invariant.ends i le) (end_taken c.args.automaton.now.states s c.loop-s.limit i (has_state c.loop-s.from) below between (has_state c.take-end.new.from) _
    at took.below took.from (took.end i le))

pub returns-clause-steps : goal.returns-clause-steps
returns-clause-steps c = λ b y k is.
    iff_trans (c.loop-s.invariant.steps b y k is) (rest_passed c.args.automaton.now.states c.loop-s.limit k (b ∷ y) (has_state c.loop-s.from) (has_state c.loop-s.to) (λ _. false) c.in_default.ensures.found)

pub returns-clause-ends : goal.returns-clause-ends
returns-clause-ends c = λ i le.
    iff_trans (c.loop-s.invariant.ends i le)
    (iff_trans (ends_passed c.args.automaton.now.states c.loop-s.limit i (has_state c.loop-s.from) c.in_default.ensures.found)
    (iff_sym (no_end_more (EndsBelow c.args.automaton.now c.loop-s.from 0 i) None i refl)))

pub returns-then-is_some-clause-counted : goal.returns-then-is_some-clause-counted
returns-then-is_some-clause-counted c =
    let s = c.in-Some.s in
    counted_taken (state c.args.automaton.now.states s) s c.args.byte (has_state c.args.to.now) (has_state c.loop-s.to) (has_state c.take-end.new.to) _ _ _ c.loop-s.invariant.counted c.in-Some.ensures.counted c.take-end.ensures.to
