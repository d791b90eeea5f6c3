use Rattle.lazy_dfa.proofs.lemmas.Rows.{keeps_then}
use Rattle.lazy_dfa.proofs.rows.Rows.seek.Goals as goal

pub returns-clause-kept : goal.returns-clause-kept
returns-clause-kept c = λ on. keeps_then c.args.self.now c.make_room-room.new.self c.add-row.new.self (c.make_room-room.ensures.kept on) c.add-row.ensures.kept
