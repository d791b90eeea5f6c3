use Rattle.glob_path.proofs.lemmas.Starts.{buckets_rise}
use Rattle.glob_path.proofs.rows.directory_of.Goals as goal

pub starts_of-requires-clause-sorted : goal.starts_of-requires-clause-sorted
starts_of-requires-clause-sorted c = rw (c.deref.ensures.value, c.in_ok-buckets.ensures) (buckets_rise c.args.rows.now _ c.requires)

pub returns : goal.returns
returns c =
    let made = rw (c.deref.ensures.value, c.in_ok-buckets.ensures) at c.in_ok-starts.ensures in
    record { at = made }
