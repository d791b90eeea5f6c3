use Rattle.std.proofs.Common.{◌≡◌, ◌++◌, [], drop, arith}
use Rattle.std.proofs.lemmas.List.{drop_all}
use Rattle.byte_nfa.proofs.lemmas.Pass.{iff_trans}
use Rattle.byte_nfa.specs.Steps.{IsReached}
use Rattle.byte_nfa.specs.EarlyMatches.{half}
use Rattle.lazy_dfa.specs.inner.Rows.{AcceptsRow}
use Rattle.byte_nfa.proofs.lemmas.Finding.{finds_same}
use Rattle.lazy_dfa.proofs.lemmas.Reading.{read_on}
use Rattle.lazy_dfa.proofs.rows.Rows.read_known.Goals as goal

pub returns-in-Ok-clause-reached : goal.returns-in-Ok-clause-reached
returns-in-Ok-clause-reached c =
    let d = c.args.dfa.now in
    let m = d.run in
    let rows = c.args.self.now in
    let text = c.args.text.now in
    let (j, at, begins) = c.requires.begins c.in-Some.place c.in-Some.is in
    read_on d rows (AcceptsRow m rows j) (IsReached m) text text c.in-Ok.reached (λ z k. finds_same (half m) (AcceptsRow m rows j) (IsReached m) begins (text ++ z) k) (rw c.in-Ok.is at c.read_from.ensures.reached j at)

pub returns-else-left-text-clause-reached : goal.returns-else-left-text-clause-reached
returns-else-left-text-clause-reached c =
    let d = c.args.dfa.now in
    let m = d.run in
    let rows = c.args.self.now in
    let text = c.args.text.now in
    let (j, at, begins) = c.requires.begins c.in-Some.place c.in-Some.is in
    let left = rw c.in-Err.is at c.read_from.ensures.reached j at in
    let (i, there, finds) = left.row in
    let past : drop c.in-Err.left.at text ≡ [] = drop_all c.in-Err.left.at text (omega arith) in
    (i, there, λ z k. iff_trans (rw past at finds z k) (finds_same (half m) (AcceptsRow m rows j) (IsReached m) begins (text ++ z) k))
