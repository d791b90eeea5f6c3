use Rattle.glob_relations.proofs.lemmas.Equal.{rows_differ}
use Rattle.glob_relations.proofs.rows.SearchRows.len.Goals as goal

pub returns-clause-different : goal.returns-clause-different
returns-clause-different c = rows_differ c.args.self.now.seen.keys c.len.ensures.unique
