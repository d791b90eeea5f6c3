use Rattle.std.proofs.Common.{arith}
use Rattle.glob_path.proofs.lemmas.Starts.{starts_more}
use Rattle.glob_path.proofs.rows.starts_of.Goals as goal

pub loop-bucket-preserved : goal.loop-bucket-preserved
loop-bucket-preserved c =
    rw c.in_ok-push.ensures.items
    (starts_more c.args.buckets.now c.loop-bucket.starts.items c.loop-bucket.from c.skip_below-from.result _ c.loop-bucket.bucket c.requires.sorted c.loop-bucket.invariant
    (omega (arith, c.skip_below-from.ensures.bound, c.requires.few))
    c.skip_below-from.ensures.bound c.skip_below-from.ensures.before c.skip_below-from.ensures.here)
