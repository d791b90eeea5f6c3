use Rattle.std.proofs.Common.{arith}
use Rattle.bit_sets.specs.Indexes.{has_index}
use Rattle.git_ignore.proofs.lemmas.Entries.{all_searched, next_searched}
use Rattle.git_ignore.proofs.entry.last_entry_for.Goals as goal

pub loop-index-preserved : goal.loop-index-preserved
loop-index-preserved c =
    let (low, within, found, none) = c.in-Some.ensures in
    record {
      within = omega (arith, within);
      last = next_searched (has_index c.args.found.now) c.args.is_folder c.args.entries.now c.loop-index.from c.in-Some.index c.loop-index.last c.later_entry-last.result
          low found none c.loop-index.invariant.last c.later_entry-last.ensures;
    }

pub returns : goal.returns
returns c = all_searched (has_index c.args.found.now) c.args.is_folder c.args.entries.now c.loop-index.from c.loop-index.last c.loop-index.invariant.within c.in_default.ensures c.loop-index.invariant.last
