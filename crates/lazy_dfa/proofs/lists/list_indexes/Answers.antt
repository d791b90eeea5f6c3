use Rattle.std.proofs.Common.{◌∷◌, [], arith, length-append}
use Rattle.bit_sets.specs.Indexes.{has_index}
use Rattle.bit_sets.proofs.lemmas.Lists.{listed_past, listed_more}
use Rattle.lazy_dfa.proofs.lists.list_indexes.Goals as goal

pub loop-index-preserved : goal.loop-index-preserved
loop-index-preserved c =
    let inv = c.loop-index.invariant in
    let (low, high, has, between) = c.in-Some.ensures in
    let list = c.loop-index.list.items in
    let index = c.in-Some.index in
    rw c.push_within.ensures.items record {
      high = omega arith;
      few = omega (arith, inv.few, low, length-append list (index ∷ []));
      listed = listed_more (has_index c.args.set.now) c.args.limit index list high has (listed_past (has_index c.args.set.now) c.args.limit c.loop-index.at index list low between inv.listed);
    }
