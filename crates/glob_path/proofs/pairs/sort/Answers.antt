use Rattle.std.proofs.Common.{rules}
use Rattle.std.proofs.lemmas.Fn.{always_returns_same}
use Rattle.std.proofs.lemmas.List.Sorted.{ranks_by, All-permutation}
use Rattle.std.proofs.lemmas.Result.{on_ok_weaker}
use Rattle.glob_path.proofs.lemmas.Under.{hashes_ordered, sorted_below, sorted_under}
use Rattle.glob_path.proofs.pairs.sort.Goals as goal
use Rattle.glob_path.specs.inner.Pairs.{pair_key, pair_before, IsKept}

pub returns-clause-sorted : goal.returns-clause-sorted
returns-clause-sorted c =
    on_ok_weaker c.sort_by.result
    (λ sorted. sorted_below c.args.bytes.now _ (All-permutation (IsKept c.args.bytes.now) _ _ c.sort_by.ensures.permutation c.requires)
    (sorted (pair_before c.args.bytes.now) (ranks_by hashes_ordered (λ p. (p.hash, pair_key c.args.bytes.now p))) (always_returns_same _ _ _ (λ a r f k. search rules))))
    c.sort_by.ensures.sorted

pub returns-clause-same : goal.returns-clause-same
returns-clause-same c =
    sorted_under c.args.bytes.now _ _ c.requires c.sort_by.ensures.permutation
    (c.sort_by.ensures.stable (pair_before c.args.bytes.now) (ranks_by hashes_ordered (λ p. (p.hash, pair_key c.args.bytes.now p))) (always_returns_same _ _ _ (λ a r f k. search rules)))
