use Rattle.std.proofs.Common.{subst, append-nil, []}
use Rattle.byte_nfa.proofs.lemmas.Pass.{iff_trans}
use Rattle.byte_nfa.specs.Runs.{AcceptsFrom}
use Rattle.byte_nfa.proofs.lemmas.Finding.{iff_beside, last_told}
use Rattle.byte_nfa.specs.EarlyMatches.{half}
use Rattle.byte_nfa.specs.inner.Stepping.{AddsFoundFrom}
use Rattle.byte_nfa.proofs.stepping.find.Goals as goal

pub returns-then-run-clause-found : goal.returns-then-run-clause-found
returns-then-run-clause-found c =
    let m = c.args.automaton.now in
    let before = AcceptsFrom m c.run.new.from in
    subst (λ y. AddsFoundFrom m c.args.from.now y c.args.found.now c.step.new.found) (append-nil c.args.text.now)
    (λ k. iff_trans (c.step.ensures.told k) (iff_trans (iff_beside (last_told (half m) before (before []) (λ j lt. (λ h. h, λ h. h)) k)) (c.run.ensures.found c.if-run.true [] k)))

pub returns-else-run-clause-found : goal.returns-else-run-clause-found
returns-else-run-clause-found c =
    let m = c.args.automaton.now in
    subst (λ y. AddsFoundFrom m c.args.from.now y c.args.found.now c.run.new.found) (append-nil c.args.text.now) (c.run.ensures.none c.if-run.false [])
