use Rattle.engine.specs.inner.Lists.{AcceptAlike}
use Rattle.byte_nfa.proofs.lemmas.Listing.{members_permuted}
use Rattle.engine.proofs.lemmas.Lists.{alike_in_order}
use Rattle.engine.proofs.sharing.Sharing.in_order.Goals as goal

pub returns-clause-alike : goal.returns-clause-alike
returns-clause-alike c =
    let m = c.args.automaton.now in
    let list = c.args.list.now in
    let states = c.in-Some.states.items in
    let in_order = c.sort_unstable_by_key.new.self.items in
    let alike : AcceptAlike m list states = rw c.in-Some.is at c.in_ok-states.ensures.alike in
    alike_in_order m list states in_order alike (members_permuted states in_order c.sort_unstable_by_key.ensures.permutation)
