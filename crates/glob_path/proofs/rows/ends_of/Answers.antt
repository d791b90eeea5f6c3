use Rattle.glob_path.proofs.lemmas.Ends.{ends_more}
use Rattle.glob_path.proofs.rows.ends_of.Goals as goal

pub loop-row-preserved : goal.loop-row-preserved
loop-row-preserved c =
    let here = rw c.key.ensures at c.with-ends.ensures.has in
    ends_more c.args.bytes.now c.args.rows.now c.loop-row.row-index _ c.loop-row.ends c.with-ends.result c.loop-row-test.true c.loop-row.invariant here c.with-ends.ensures.kept
