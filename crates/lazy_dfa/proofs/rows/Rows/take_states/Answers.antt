use Rattle.std.proofs.Common.{◌≡◌}
use Rattle.byte_nfa.proofs.lemmas.Pass.{iff_sym}
use Rattle.lazy_dfa.specs.inner.Rows.{states_of}
use Rattle.lazy_dfa.proofs.lemmas.Rows.{accepts_loaded}
use Rattle.lazy_dfa.proofs.rows.Rows.take_states.Goals as goal

pub returns-clause-states : goal.returns-clause-states
returns-clause-states c = λ i (here, at) y k.
    let rows = c.args.self.now in
    let is = c.row_at-row.ensures i at in
    let same : c.states_at-states.result.now ≡ states_of rows i = rw is at (rw (c.deref.ensures.value, c.deref-2.ensures.value) at c.states_at-states.ensures) in
    iff_sym (accepts_loaded c.args.dfa.now.run c.clear.new.self c.put_states.new.into (states_of rows i) c.clear.ensures.none (rw same at c.put_states.ensures.has) y k)
