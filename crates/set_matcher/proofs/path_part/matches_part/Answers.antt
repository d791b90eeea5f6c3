use Rattle.std.proofs.Common.{◌≡◌, ℕ, subst, arith}
use Rattle.std.specs.Prelude.{◌↔◌, IfOk, IsTrue}
use Rattle.byte_nfa.specs.Runs.{size, max_reads}
use Rattle.byte_nfa.specs.Steps.{IsReached}
use Rattle.engine.proofs.lemmas.Rows.{none_matches}
use Rattle.set_matcher.specs.inner.PathPart.{part_of}
use Rattle.set_matcher.proofs.lemmas.Automata.{no_reached}
use Rattle.set_matcher.proofs.lemmas.PathPart.{part_visits}
use Rattle.set_matcher.proofs.path_part.matches_part.Goals as goal

pub returns-then-state_count-eq0-clause-some : goal.returns-then-state_count-eq0-clause-some
returns-then-state_count-eq0-clause-some c =
    let m = c.args.automaton.now in
    let text = part_of c.args.part c.args.path.now in
    let none : size m ≡ 0 = omega (arith, c.state_count.ensures, c.if-state_count-eq0.true) in
    none_matches m text (λ k. no_reached m text k none)

pub returns-clause-some : goal.returns-clause-some
returns-clause-some c =
    subst (λ text. IfOk c.is_match.result (λ yes. IsTrue yes ↔ ((k : ℕ) × IsReached c.args.automaton.now text k))) c.of-text.ensures c.is_match.ensures.some

pub returns-clause-visits : goal.returns-clause-visits
returns-clause-visits c =
    part_visits c.args.part c.args.path.now c.of-text.result.now (max_reads c.args.automaton.now) c.args.visits.now c.is_match.new.visits c.of-text.ensures c.is_match.ensures.visits
