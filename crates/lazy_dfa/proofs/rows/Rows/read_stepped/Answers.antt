use Rattle.std.proofs.Common.{◌≡◌, ◌++◌, take, drop, subst, sym, append_assoc, take-append-drop, ◌∙◌, ap, List, ℕ}
use Rattle.byte_nfa.proofs.lemmas.Pass.{iff_trans, iff_sym}
use Rattle.byte_nfa.specs.Runs.{AcceptsFrom}
use Rattle.byte_nfa.specs.EarlyMatches.{half, FindsBy}
use Rattle.lazy_dfa.specs.inner.Rows.{AcceptsRow}
use Rattle.byte_nfa.proofs.lemmas.Finding.{finds_same}
use Rattle.lazy_dfa.proofs.rows.Rows.read_stepped.Goals as goal

-- a text in two parts, and what follows it
in_parts : (n : ℕ) (text z : List ℕ) → take n text ++ (drop n text ++ z) ≡ text ++ z
in_parts n text z = sym (append_assoc (take n text) (drop n text) z) ∙ ap (λ y. y ++ z) (take-append-drop n text)

pub returns-in-Decided-clause-reached : goal.returns-in-Decided-clause-reached
returns-in-Decided-clause-reached c = λ i at z.
    let m = c.args.dfa.now.run in
    let text = c.args.text.now in
    let n = c.next-count.result in
    let (k, finds) = (rw c.in-Decided.is at (rw c.automaton.ensures.automaton at c.read.ensures.led)) (drop n text ++ z) in (
      k,
      (finds_same (half m) (AcceptsFrom m c.take_states.new.pass.from) (AcceptsRow m c.args.self.now i) (c.take_states.ensures.states i at) (text ++ z) k).0
          (subst (λ y. FindsBy (half m) (AcceptsFrom m c.take_states.new.pass.from) y k) (in_parts n text z) finds),
    )

pub returns-in-NoState-clause-reached : goal.returns-in-NoState-clause-reached
returns-in-NoState-clause-reached c = λ i at z k found.
    let m = c.args.dfa.now.run in
    let text = c.args.text.now in
    let n = c.next-count.result in
    (rw c.in-NoState.is at (rw c.automaton.ensures.automaton at c.read.ensures.led)) (drop n text ++ z) k
    (subst (λ y. FindsBy (half m) (AcceptsFrom m c.take_states.new.pass.from) y k) (sym (in_parts n text z))
    ((finds_same (half m) (AcceptsFrom m c.take_states.new.pass.from) (AcceptsRow m c.args.self.now i) (c.take_states.ensures.states i at) (text ++ z) k).1 found))

pub returns-in-States-clause-reached : goal.returns-in-States-clause-reached
returns-in-States-clause-reached c = λ i at.
    let m = c.args.dfa.now.run in
    let text = c.args.text.now in
    let n = c.next-count.result in
    let (j, there, same) = c.row_of_from-place.ensures.row in
    record {
      within = c.next-count.ensures.within;
      row = (
        j,
        there,
        λ z k. iff_trans (iff_trans (iff_sym (finds_same (half m) (AcceptsFrom m c.read.new.from) (AcceptsRow m c.row_of_from-place.new.self j) same (drop n text ++ z) k))
            (rw (in_parts n text z) at ((rw c.in-States.is at (rw c.automaton.ensures.automaton at c.read.ensures.led)) (drop n text ++ z) k)))
            (finds_same (half m) (AcceptsFrom m c.take_states.new.pass.from) (AcceptsRow m c.args.self.now i) (c.take_states.ensures.states i at) (text ++ z) k),
      );
    }
