use Rattle.std.proofs.Common.{◌≡◌, subst, arith}
use Rattle.std.specs.Prelude.{OnOk}
use Rattle.byte_nfa.specs.Runs.{size, max_reads}
use Rattle.engine.specs.Matching.{AddsReached}
use Rattle.engine.proofs.lemmas.Rows.{none_added}
use Rattle.set_matcher.specs.inner.PathPart.{part_of}
use Rattle.set_matcher.proofs.lemmas.Automata.{no_reached}
use Rattle.set_matcher.proofs.lemmas.PathPart.{part_visits}
use Rattle.set_matcher.proofs.path_part.run.Goals as goal

pub returns-then-state_count-eq0-clause-found : goal.returns-then-state_count-eq0-clause-found
returns-then-state_count-eq0-clause-found c =
    let m = c.args.automaton.now in
    let text = part_of c.args.part c.args.path.now in
    let none : size m ≡ 0 = omega (arith, c.state_count.ensures, c.if-state_count-eq0.true) in
    none_added m text c.args.marks.now (λ k. no_reached m text k none)

pub returns-clause-found : goal.returns-clause-found
returns-clause-found c =
    subst (λ text. OnOk c.find.result (AddsReached c.args.automaton.now text c.args.marks.now c.find.new.found)) c.of-text.ensures c.find.ensures.reached

pub returns-clause-visits : goal.returns-clause-visits
returns-clause-visits c =
    part_visits c.args.part c.args.path.now c.of-text.result.now (max_reads c.args.automaton.now) c.args.visits.now c.find.new.visits c.of-text.ensures c.find.ensures.visits
