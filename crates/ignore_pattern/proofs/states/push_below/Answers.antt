use Rattle.ignore_pattern.proofs.lemmas.Below.{ok_below}
use Rattle.ignore_pattern.proofs.states.push_below.Goals as goal

pub returns-clause-builds : goal.returns-clause-builds
returns-clause-builds c =
    ok_below c.args.builder.now c.push_match.new.self c.push_loop.new.self c.push_bytes.new.self c.only.result c.everything.result c.args.index c.in_ok-end.end c.in_ok-stay.stay c.push_bytes.result
    (λ b lt. c.only.ensures b) c.everything.ensures c.in_ok-end.ensures.pushed c.in_ok-stay.ensures.pushed c.push_bytes.ensures.pushed
