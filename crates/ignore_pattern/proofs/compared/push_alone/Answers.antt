use Rattle.std.proofs.lemmas.Result.{IfOk-weaker}
use Rattle.ignore_pattern.specs.Patterns.{pattern_matches}
use Rattle.ignore_pattern.specs.inner.States.{BuildsAlone}
use Rattle.byte_nfa.specs.Leading.{Builds}
use Rattle.ignore_pattern.proofs.lemmas.Compared.{alone_built}
use Rattle.ignore_pattern.proofs.compared.push_alone.Goals as goal

pub returns-clause-builds : goal.returns-clause-builds
returns-clause-builds c =
    let p = c.args.pattern.now in
    let mid = c.push_match.new.self in
    let new = c.push_matching.new.builder in
    IfOk-weaker c.push_matching.result (λ s. Builds (pattern_matches c.args.ignore_case p) mid.states new.states s c.in_ok-end.end)
    (λ s. BuildsAlone c.args.ignore_case p c.args.index c.args.builder.now.states new.states s)
    (λ s built. alone_built c.args.ignore_case p c.args.index c.args.builder.now mid new s c.in_ok-end.end c.in_ok-end.ensures.pushed c.push_matching.ensures.grows built)
    c.push_matching.ensures.builds
