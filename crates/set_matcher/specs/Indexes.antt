-- The indexes of the items of a list that pass a test.
use Rattle.std.specs.Prelude.{ℕ, Bool, false, List, length, filter, ◌<◌, Contains, slice_get}
use Rattle.std.specs.List.{range_with_len}
use Rattle.std.specs.Option.{option_map_or}

-- The list has an item at this index, and the item passes the test. `slice_get` is `None` past the end of the list.
abbrev pub passes_at : {X : Type 0} → (X → Bool) → List X → ℕ → Bool
passes_at test xs i = option_map_or test (slice_get xs i) false

-- Of the indexes 0, 1, .. below the number of items, those whose items pass the test, in this order. So they ascend, and no
-- index is there twice.
abbrev pub passing_indexes : {X : Type 0} → (X → Bool) → List X → List ℕ
passing_indexes test xs = filter (passes_at test xs) (range_with_len 0 (length xs))

-- Every number below n is in the list. Of such indexes, with n the number of items: every item passes.
abbrev pub ContainsAllBelow : List ℕ → ℕ → Type 0
ContainsAllBelow xs n = (i : ℕ) → i < n → Contains xs i
