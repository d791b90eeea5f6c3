use Rattle.glob_path.proofs.lemmas.Starts.{StartsTo}
use Rattle.glob_path.proofs.rows.starts_of.Given as goal

abbrev pub invariant-loop-bucket : goal.invariant-loop-bucket
invariant-loop-bucket l = StartsTo l.buckets l.starts.items l.from l.bucket
