use Rattle.std.proofs.Common.{◌≡◌, ◌++◌, take, drop, take-append-drop}
use Rattle.byte_nfa.proofs.lemmas.Pass.{iff_trans, iff_sym}
use Rattle.byte_nfa.specs.Runs.{AcceptsFrom}
use Rattle.byte_nfa.specs.EarlyMatches.{half}
use Rattle.lazy_dfa.specs.inner.Rows.{AcceptsRow}
use Rattle.byte_nfa.proofs.lemmas.Finding.{iff_beside, finds_same}
use Rattle.lazy_dfa.proofs.rows.Rows.find_stepped.Goals as goal

pub returns-then-not-run-clause-found : goal.returns-then-not-run-clause-found
returns-then-not-run-clause-found c = λ i at k.
    let m = c.args.dfa.now.run in
    let text = c.args.text.now in
    let n = c.next-count.result in
    let whole : take n text ++ drop n text ≡ text = take-append-drop n text in
    iff_trans (rw whole at ((rw c.automaton.ensures.automaton at c.run.ensures.none) c.if-not-run.true (drop n text) k))
    (iff_beside (finds_same (half m) (AcceptsFrom m c.take_states.new.pass.from) (AcceptsRow m c.args.self.now i) (c.take_states.ensures.states i at) text k))

pub returns-clause-found : goal.returns-clause-found
returns-clause-found c = λ i at.
    let m = c.args.dfa.now.run in
    let text = c.args.text.now in
    let n = c.next-count.result in
    let whole : take n text ++ drop n text ≡ text = take-append-drop n text in
    let (j, there, same) = c.row_of_from-place.ensures.row in
    record {
      within = c.next-count.ensures.within;
      row = (
        j,
        there,
        λ k. iff_trans (iff_trans (iff_beside (iff_sym (finds_same (half m) (AcceptsFrom m c.run.new.from) (AcceptsRow m c.row_of_from-place.new.self j) same (drop n text) k)))
            (rw whole at ((rw c.automaton.ensures.automaton at c.run.ensures.found) c.if-not-run.false (drop n text) k)))
            (iff_beside (finds_same (half m) (AcceptsFrom m c.take_states.new.pass.from) (AcceptsRow m c.args.self.now i) (c.take_states.ensures.states i at) text k)),
      );
    }
