use Rattle.std.proofs.Common.{arith, refl}
use Rattle.glob_syntax.proofs.lemmas.Classes.{shows_nothing, shows_more, shown}
use Rattle.glob_syntax.proofs.class.table_of.Goals as goal

pub loop-range-init : goal.loop-range-init
loop-range-init c = record {
  shows = shows_nothing;
  len = refl;
}

pub loop-range-preserved : goal.loop-range-preserved
loop-range-preserved c =
    let ranges = c.args.ranges.now in
    let i = c.loop-range.range-index in
    record {
      shows = shows_more ranges i (0, 0) c.loop-range.table c.put_range.new.table (omega arith) c.loop-range.invariant.shows c.put_range.ensures;
      len = c.put_range.array_long;
    }

pub returns : goal.returns
returns c = (c.loop-range.invariant.len, shown c.args.ranges.now c.loop-range.range-index c.loop-range.table (omega arith) c.loop-range.invariant.len c.loop-range.invariant.shows)
