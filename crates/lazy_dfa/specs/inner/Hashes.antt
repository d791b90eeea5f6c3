-- The hash of a list of numbers.
use Rattle.std.specs.Prelude.{ℕ, ◌*◌, ◌/◌, ◌%◌, ◌^◌, List, length, drop, fold, bit_or, slice_index}
use Rattle.std.specs.List.{flat_map}
use Rattle.std.specs.Simd.{first_chunks}
use Rattle.std.specs.Hash as fed
use Rattle.std.specs.Hash.FoldHasher as folding

-- two numbers as one: the second stands in the upper half
abbrev pub packed : List ℕ → ℕ
packed pair = bit_or (slice_index pair 0) ((slice_index pair 1 * 2 ^ 32) % 2 ^ 64)

-- the hash of a seed and then a list, whose numbers are taken in pairs
unfoldable pub list_hash : ℕ → List ℕ → ℕ
list_hash seed list =
    let pairs = first_chunks 2 (length list / 2) list in
    let rest = drop (length list / 2 * 2) list in
    folding.finish (fold folding.write (fold folding.write (fold folding.write folding.initial (fed.usize seed)) (flat_map (λ pair. fed.u64 (packed pair)) pairs)) (flat_map fed.u32 rest))
