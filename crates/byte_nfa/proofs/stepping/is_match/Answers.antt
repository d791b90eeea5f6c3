use Rattle.std.proofs.Common.{[]}
use Rattle.byte_nfa.specs.Runs.{AcceptsFrom}
use Rattle.byte_nfa.proofs.lemmas.Pass.{iff_trans}
use Rattle.byte_nfa.proofs.lemmas.After.{index_below, decided_end, nothing_end, row_end}
use Rattle.byte_nfa.proofs.lemmas.Stepping.{below_all}
use Rattle.byte_nfa.specs.EarlyMatches.{half}
use Rattle.byte_nfa.proofs.stepping.is_match.Goals as goal

pub returns-in-Decided-clause-some : goal.returns-in-Decided-clause-some
returns-in-Decided-clause-some c = let m = c.args.automaton.now in decided_end (half m) (AcceptsFrom m c.args.from.now) c.args.text.now (rw c.in-Decided.is at c.read.ensures.led)

pub returns-in-NoState-clause-some : goal.returns-in-NoState-clause-some
returns-in-NoState-clause-some c = let m = c.args.automaton.now in nothing_end (half m) (AcceptsFrom m c.args.from.now) c.args.text.now (rw c.in-NoState.is at c.read.ensures.led)

pub returns-in-States-clause-some : goal.returns-in-States-clause-some
returns-in-States-clause-some c =
    let m = c.args.automaton.now in
    let now = AcceptsFrom m c.read.new.from in
    let (source, early) = c.requires.early in
    iff_trans c.has_end.ensures.some (iff_trans (below_all (half m) now (λ k (t, lt, at, a). index_below source m early k t [] a))
    (row_end (half m) (AcceptsFrom m c.args.from.now) c.args.text.now now (rw c.in-States.is at c.read.ensures.led)))
