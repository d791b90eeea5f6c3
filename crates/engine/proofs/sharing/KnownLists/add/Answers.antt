use Rattle.std.proofs.Common.{refl}
use Rattle.engine.proofs.lemmas.Known.{known_put}
use Rattle.engine.proofs.sharing.KnownLists.add.Goals as goal

pub returns-in_ok-insert : goal.returns-in_ok-insert
returns-in_ok-insert c = known_put c.args.self.now (record { singles = c.args.self.now.singles; others = c.insert.new.self }) c.args.list.items c.args.state refl c.in_ok-insert.ensures.updates
