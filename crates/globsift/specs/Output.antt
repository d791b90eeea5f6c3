-- The output for the read bytes, and the output before an error.
--
-- A contract sees a reader as its remaining bytes, and a writer as its bytes. Each is `None` if the reader or writer does not
-- say, as standard input and output: then nothing is claimed about it. `Consumes old new bytes`: these bytes were taken from the
-- front of the remaining bytes. `Appends old new bytes`: these bytes were appended to the writer's bytes. `IsAtEnd reader`:
-- nothing is left.
use Rattle.std.specs.Prelude.{◌≡◌, ℕ, List, [], ◌∷◌, ◌++◌, Bool, true, false, Option, decimal, flat_map, map, if◌then◌else◌}
use Rattle.std.specs.List.{join_with_byte, list_any}
use Rattle.std.specs.Io.KnownBytes.{Appends, Consumes, IsAtEnd}
use Rattle.globset.specs.Answer.{matching_indexes}
use Rattle.globset.specs.GlobMatches.{GlobValue}
use Rattle.globsift.specs.Lines.{lines, through_last_lf}
use Rattle.globsift.specs.declared.sifting.fault.SiftFault.{SiftFault}
use Rattle.globsift.specs.declared.sifting.fault.SiftFault.TheVariants.{Read, Write, OutOfMemory}

-- there is an index
abbrev pub has_index : List ℕ → Bool
has_index [] = false
has_index (index ∷ indexes) = true

-- The set of these globs matches the line. `matching_indexes` is the indexes of the globs that match, as a set returns them.
abbrev pub is_matched : List GlobValue → List ℕ → Bool
is_matched globs line = has_index (matching_indexes globs line)

-- the indexes in decimal, separated by `,` (44), and a tab (9)
abbrev pub index_text : List ℕ → List ℕ
index_text indexes = join_with_byte 44 (map decimal indexes) ++ 9 ∷ []

-- what comes before a line in the output: nothing, unless the output is numbered
abbrev pub index_column : Bool → List ℕ → List ℕ
index_column numbered indexes = if numbered then index_text indexes else []

-- The output for a line: nothing if the set does not match it. Otherwise the index column, the line and LF (10).
unfoldable pub line_output : List GlobValue → Bool → List ℕ → List ℕ
line_output globs numbered line =
    if is_matched globs line then index_column numbered (matching_indexes globs line) ++ line ++ 10 ∷ [] else []

-- the output for these bytes: the output for each of their lines, in order
unfoldable pub sifted : List GlobValue → Bool → List ℕ → List ℕ
sifted globs numbered bytes = flat_map (line_output globs numbered) (lines bytes)

-- the set matches some line of these bytes
unfoldable pub has_match : List GlobValue → List ℕ → Bool
has_match globs bytes = list_any (is_matched globs) (lines bytes)

-- a prefix of these bytes was appended to the writer's bytes: none, some or all of them
abbrev pub AppendsPrefix : Option (List ℕ) → Option (List ℕ) → List ℕ → Type 0
AppendsPrefix old new bytes = (out : List ℕ) × (rest : List ℕ) × Appends old new out × (out ++ rest ≡ bytes)

-- On success: the reader was read to its end, the whole output for its bytes was written, and `any` says whether that was
-- a line at least.
abbrev pub SiftSucceeds : List GlobValue → Bool → Option (List ℕ) → Option (List ℕ) → Option (List ℕ) → Option (List ℕ) → Bool → Type 0
SiftSucceeds globs numbered reader reader' writer writer' any = (bytes : List ℕ) × Consumes reader reader' bytes × IsAtEnd reader'
    × Appends writer writer' (sifted globs numbered bytes) × (any ≡ has_match globs bytes)

-- On an error: the written part of the output for the read bytes. If reading failed, the output for the bytes up to their last
-- LF. If writing failed or memory ran out, a prefix of the output.
abbrev pub SiftFails : List GlobValue → Bool → Option (List ℕ) → Option (List ℕ) → Option (List ℕ) → Option (List ℕ) → SiftFault → Type 0
SiftFails globs numbered reader reader' writer writer' Read = (bytes : List ℕ) × Consumes reader reader' bytes
    × Appends writer writer' (sifted globs numbered (through_last_lf bytes))
SiftFails globs numbered reader reader' writer writer' Write = (bytes : List ℕ) × Consumes reader reader' bytes
    × AppendsPrefix writer writer' (sifted globs numbered bytes)
SiftFails globs numbered reader reader' writer writer' OutOfMemory = (bytes : List ℕ) × Consumes reader reader' bytes
    × AppendsPrefix writer writer' (sifted globs numbered bytes)
