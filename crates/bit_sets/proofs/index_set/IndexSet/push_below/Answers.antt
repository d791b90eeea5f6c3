use Rattle.std.proofs.Common.{length, ap, ◌∙◌, arith}
use Rattle.std.proofs.lemmas.Result.{err_from_is_err_and}
use Rattle.bit_sets.specs.Indexes.{has_index}
use Rattle.bit_sets.proofs.lemmas.Filters.{few_kept, filter_between, next_pushed}
use Rattle.bit_sets.proofs.index_set.IndexSet.push_below.Goals as goal

pub loop-index-preserved : goal.loop-index-preserved
loop-index-preserved c =
    let (low, high, has, between) = c.in-Some.ensures in
    record {
      sofar = next_pushed (has_index c.args.self.now) c.loop-index.from c.in-Some.index c.loop-index.into.items c.push.new.self.items c.loop-index.invariant.sofar (low, has, between) c.in_ok-push.ensures.items;
      within = omega (arith, high);
      capacity = omega (arith, c.loop-index.invariant.capacity, c.push.ensures.capacity);
    }

pub returns-clause-pushed : goal.returns-clause-pushed
returns-clause-pushed c =
    c.loop-index.invariant.sofar ∙ filter_between (has_index c.args.self.now) c.loop-index.from c.args.end c.loop-index.invariant.within c.in_default.ensures

pub returns-in_err-push-clause-memory : goal.returns-in_err-push-clause-memory
returns-in_err-push-clause-memory c = λ fits.
    let few = few_kept (has_index c.args.self.now) c.loop-index.from in
    let same = ap length c.loop-index.invariant.sofar in
    let p = err_from_is_err_and c.from_residual.result c.from_residual.ensures.1 in
    rw p.1 (c.in_err-push.ensures.succeeds (omega (arith, few, same, fits, c.loop-index.into.ok.0, c.in-Some.ensures.0, c.in-Some.ensures.1, c.loop-index.invariant.capacity)))
