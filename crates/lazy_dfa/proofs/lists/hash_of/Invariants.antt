use Rattle.std.proofs.Common.{◌≡◌, drop}
use Rattle.std.specs.Prelude.{fold}
use Rattle.std.specs.List.{flat_map}
use Rattle.std.specs.Hash as fed
use Rattle.std.specs.Hash.FoldHasher as folding
use Rattle.lazy_dfa.specs.inner.Hashes.{packed}
use Rattle.lazy_dfa.proofs.lists.hash_of.Given as goal

abbrev pub invariant-loop-pair : goal.invariant-loop-pair
invariant-loop-pair l =
    fold folding.write l.hasher (flat_map (λ pair. fed.u64 (packed pair)) (drop l.pair-index l.pairs)) ≡ fold folding.write l.initial.hasher (flat_map (λ pair. fed.u64 (packed pair)) l.pairs)

abbrev pub invariant-loop-number : goal.invariant-loop-number
invariant-loop-number l = fold folding.write l.hasher (flat_map fed.u32 (drop l.number-index l.rest)) ≡ fold folding.write l.initial.hasher (flat_map fed.u32 l.rest)
