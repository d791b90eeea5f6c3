use Rattle.std.proofs.Common.{sym, ◌∙◌}
use Rattle.byte_nfa.proofs.lemmas.Pass.{iff_trans, no_end}
use Rattle.byte_nfa.proofs.lemmas.Stepping.{step_begun, step_done, has_end_is}
use Rattle.byte_nfa.proofs.stepping.has_end.Goals as goal

pub returns-clause-steps : goal.returns-clause-steps
returns-clause-steps c = λ off b y k is.
    let m = c.args.automaton.now in
    let passed = c.next_end.ensures in
    let past = no_end _ _ c.next_end.result passed.end (sym c.is_some.ensures ∙ off) in
    iff_trans (step_begun m c.args.from.now c.clear.new.self b y k c.clear.ensures.none)
    (iff_trans (rw c.state_count-limit.ensures at passed.steps b y k is) (step_done m c.next_end.new.from c.next_end.new.to c.next_end.new.limit b y k past))

pub returns-clause-some : goal.returns-clause-some
returns-clause-some c =
    let passed = c.next_end.ensures in
    rw c.is_some.ensures (has_end_is c.args.automaton.now c.args.from.now c.next_end.new.from c.next_end.new.limit c.args.lowest c.next_end.result
    (rw c.state_count-limit.ensures at passed.ends) (rw c.state_count-limit.ensures at passed.end))
