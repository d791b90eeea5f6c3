use Rattle.std.proofs.Common.{◌≡◌, ap, arith, subst, sym, ◌∙◌}
use Rattle.std.specs.Arc.{arc_value}
use Rattle.byte_nfa.proofs.lemmas.Pass.{iff_trans, iff_sym}
use Rattle.byte_nfa.specs.Runs.{size}
use Rattle.byte_nfa.specs.SimulationValue.{SimulationValue}
use Rattle.byte_nfa.specs.Steps.{NfaValue}
use Rattle.byte_nfa.specs.inner.Sources.{FitsU32, RunsFor}
use Rattle.lazy_dfa.specs.inner.Dfa.{IsDfa, IsListOfStates}
use Rattle.lazy_dfa.proofs.lemmas.Ordering.{accepts_same, below_same}
use Rattle.lazy_dfa.proofs.lemmas.Rows.{accepts_listed}
use Rattle.lazy_dfa.proofs.dfa.Dfa.new.Goals as goal

pub invariant_of-result : goal.invariant_of-result
invariant_of-result c =
    let m = c.automaton-automaton.result.now in
    let list = c.list_of.new.list.items in
    let sorted = c.put_in_order.new.list.items in
    let items = c.copy_within.ensures.items ∙ c.deref-3.ensures.value in
    let same = sym c.in_ok-try_clone.ensures in
    let run : m ≡ (arc_value c.in_ok-try_clone.field-0).run = c.automaton-automaton.ensures.automaton ∙ ap (λ (s : SimulationValue). s.run) (c.deref-2.ensures ∙ same) in
    let first = c.copy_within.new.numbers.items in
    subst (λ (x : NfaValue). IsDfa record { nfa = (arc_value c.in_ok-try_clone.field-0).nfa; run = x; class_of = c.new-classes.result.class_of; class_count = c.new-classes.result.count; first = first }) run record {
      runs = subst (λ (s : SimulationValue). RunsFor s.nfa m) (c.deref-2.ensures ∙ same) c.automaton-automaton.ensures.runs;
      fits = subst FitsU32 (ap (λ (s : SimulationValue). s.run) (c.deref.ensures ∙ same) ∙ sym run) (c.may_have_rows.ensures c.if-not-may_have_rows.false);
      representatives = c.new-classes.result.representatives;
      classes = c.new-classes.ensures.equivalence;
      few = c.new-classes.ensures.few;
      first = subst (IsListOfStates m) (sym items) record {
        below = below_same (size m) list sorted c.put_in_order.ensures.has (rw c.state_count-states.ensures at c.list_of.ensures.below);
        few = omega (arith, c.list_of.ensures.few, c.put_in_order.ensures.few, c.state_count-states.ensures);
        ordered = c.put_in_order.ensures.ordered;
      };
      begins = λ y k. rw items (iff_trans (iff_sym (accepts_same m list sorted c.put_in_order.ensures.has y k))
          (iff_trans (iff_sym (accepts_listed m c.start.new.into list (rw c.state_count-states.ensures at c.list_of.ensures.has) y k)) (c.start.ensures.starts y k)));
    }
