use Rattle.std.proofs.lemmas.Result.{IfOk-weaker}
use Rattle.ignore_pattern.specs.Patterns.{pattern_matches}
use Rattle.ignore_pattern.specs.inner.States.{BuildsPattern}
use Rattle.byte_nfa.specs.Leading.{Builds}
use Rattle.ignore_pattern.proofs.lemmas.Automata.{pattern_built}
use Rattle.ignore_pattern.proofs.automaton.push_states.Goals as goal

pub returns-clause-builds : goal.returns-clause-builds
returns-clause-builds c =
    let p = c.args.pattern.now in
    let parted = c.push_union.new.self in
    let new = c.push_matching.new.builder in
    IfOk-weaker c.push_matching.result (λ s. Builds (pattern_matches c.args.ignore_case p) parted.states new.states s c.in_ok-exit.exit)
    (λ s. (f : _) → BuildsPattern c.args.ignore_case p c.args.index f c.args.below c.args.builder.now.states new.states s)
    (λ s built f. pattern_built c.args.ignore_case p c.args.index f c.args.below c.args.builder.now c.push_match.new.self parted new s c.in_ok-end.end c.in_ok-exit.exit
    c.in_ok-end.ensures.pushed c.in_ok-exit.ensures.pushed c.push_matching.ensures.grows built)
    c.push_matching.ensures.builds
