use Rattle.std.proofs.Common.{◌≡◌, ◌∷◌, [], arith}
use Rattle.byte_nfa.proofs.lemmas.Pass.{iff_trans, iff_sym}
use Rattle.lazy_dfa.specs.inner.Rows.{states_of}
use Rattle.byte_nfa.specs.Runs.{size}
use Rattle.lazy_dfa.proofs.lemmas.Ordering.{accepts_same, below_same}
use Rattle.lazy_dfa.proofs.lemmas.Rows.{accepts_loaded}
use Rattle.lazy_dfa.proofs.rows.Rows.read_row.Goals as goal

pub returns-clause-steps : goal.returns-clause-steps
returns-clause-steps c = λ y k.
    let m = c.args.dfa.now.run in
    let rows = c.args.self.now in
    let same : c.states_at-states.result.now ≡ states_of rows c.args.row = rw (c.deref.ensures.value, c.deref-2.ensures.value) at c.states_at-states.ensures in
    iff_trans (accepts_loaded m c.clear.new.self c.put_states.new.into (states_of rows c.args.row) c.clear.ensures.none (rw same at c.put_states.ensures.has) (c.args.byte ∷ y) k)
    (iff_trans ((rw c.automaton.ensures.automaton at c.read.ensures.steps) y k) (accepts_same m c.read.new.to.items c.put_in_order.new.list.items c.put_in_order.ensures.has y k))

pub returns-clause-list : goal.returns-clause-list
returns-clause-list c = record {
  below = below_same (size c.args.dfa.now.run) c.read.new.to.items c.put_in_order.new.list.items c.put_in_order.ensures.has (rw c.automaton.ensures.automaton at c.read.ensures.below);
  few = (let few = rw c.automaton.ensures.automaton at c.read.ensures.few in omega (arith, few, c.put_in_order.ensures.few));
  ordered = c.put_in_order.ensures.ordered;
}

pub returns-clause-ends : goal.returns-clause-ends
returns-clause-ends c = λ k _.
    let m = c.args.dfa.now.run in
    let rows = c.args.self.now in
    let same : c.states_at-states.result.now ≡ states_of rows c.args.row = rw (c.deref.ensures.value, c.deref-2.ensures.value) at c.states_at-states.ensures in
    iff_trans ((rw c.automaton.ensures.automaton at c.read.ensures.ends) k)
    (iff_sym (accepts_loaded m c.clear.new.self c.put_states.new.into (states_of rows c.args.row) c.clear.ensures.none (rw same at c.put_states.ensures.has) [] k))
