use Rattle.byte_nfa.proofs.lemmas.Growing.{ok_up_to}
use Rattle.byte_nfa.proofs.builder.Builder.push_up_to.Goals as goal

pub returns-clause-builds : goal.returns-clause-builds
returns-clause-builds c =
    ok_up_to c.args.byte c.args.self.now c.push_bytes.new.self c.push_loop.new.self c.push_union.new.self c.only.result c.everything.result c.in_ok-last.last c.in_ok-stay.stay c.args.exit c.push_union.result
    (λ b lt. c.only.ensures b) c.everything.ensures c.in_ok-last.ensures.pushed c.in_ok-stay.ensures.pushed c.push_union.ensures.pushed
