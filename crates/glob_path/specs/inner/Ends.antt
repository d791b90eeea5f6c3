-- The last bytes of keys.
use Rattle.std.specs.Prelude.{ℕ, ◌≡◌, ◌-◌, Bool, true, cond, List, nat_eq, length, slice_index}
use Rattle.std.specs.List.{All}
use Rattle.bit_sets.specs.Bytes.{has_byte}
use Rattle.glob_path.specs.declared.rows.Ends.{Ends}
use Rattle.glob_path.specs.declared.rows.Row.{Row}
use Rattle.glob_path.specs.inner.Rows.{row_key}

-- the key's last byte is among them, or the key is empty and an empty key is among the keys
abbrev pub ends_have : Ends → List ℕ → Bool
ends_have ends key = cond (nat_eq (length key) 0) ends.has_empty (has_byte ends.last (slice_index key (length key - 1)))

-- each row's key has its end among them
pub record HasEnds (bytes : List ℕ) (rows : List Row) (ends : Ends) : Type 0 where
  pub all : All (λ r. ends_have ends (row_key bytes r) ≡ true) rows
