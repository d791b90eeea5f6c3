-- Lines of bytes.
use Rattle.std.specs.Prelude.{ℕ, List, [], ◌∷◌, Bool, ◌==◌, if◌then◌else◌}
use Rattle.std.specs.List.{list_any, onto_first}

-- the byte is LF
abbrev pub is_lf : ℕ → Bool
is_lf byte = byte == 10

-- The bytes cut at each LF, which belongs to no line. A nonempty rest after the last LF is a line too. A CR is a byte of its line
-- like any other. `onto_first` puts a byte in front of the first line. If there is no line, the byte becomes a line.
abbrev pub lines : List ℕ → List (List ℕ)
lines [] = []
lines (byte ∷ bytes) = if is_lf byte then [] ∷ lines bytes else onto_first byte (lines bytes)

-- The bytes up to and including the last LF, or none if there is no LF. So these are all lines that were read to their end.
abbrev pub through_last_lf : List ℕ → List ℕ
through_last_lf [] = []
through_last_lf (byte ∷ bytes) = if list_any is_lf (byte ∷ bytes) then byte ∷ through_last_lf bytes else []
