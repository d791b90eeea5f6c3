use Rattle.std.proofs.Common.{subst}
use Rattle.engine.specs.inner.Known.{IsSharing}
use Rattle.engine.specs.inner.Lists.{AcceptAlike, IsStateFor}
use Rattle.engine.proofs.lemmas.Known.{sharing_more}
use Rattle.engine.proofs.sharing.Sharing.take.Goals as goal

pub returns-clause-sharing : goal.returns-clause-sharing
returns-clause-sharing c = λ few.
    let m = c.args.automaton.now in
    let new = c.push_list.new.builder in
    let xs = c.in_order.new.self.known in
    let list = c.args.list.items in
    let in_order = c.in-Some.states.items in
    let state = c.in-Some-3.state in
    let sharing : IsSharing m new xs = rw c.in-Some-3.is at c.in_ok-state.ensures.sharing in
    let alike : AcceptAlike m list in_order = subst (λ l. AcceptAlike m l in_order) c.deref-2.ensures.value (rw c.in-Some.is at c.in_ok-states.ensures.alike) in
    let made : IsStateFor m new in_order state = subst (λ l. IsStateFor m new l state) c.deref-4.ensures.value (rw c.in-Some-3.is at c.in_ok-state.ensures.state) in
    sharing_more m new xs c.add.new.self list in_order state sharing alike made c.in_ok-add.ensures
