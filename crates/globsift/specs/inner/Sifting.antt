-- What holds between the steps of sifting. Only private functions cite these. The public contracts need `Lines` and
-- `Output` alone.
use Rattle.std.specs.Prelude.{◌≡◌, ℕ, List, ◌++◌, Bool, true, false, ◌||◌, Option}
use Rattle.std.specs.List.{list_any}
use Rattle.std.specs.Io.KnownBytes.{Appends}
use Rattle.globset.specs.GlobMatches.{GlobValue}
use Rattle.globsift.specs.Lines.{lines, is_lf, through_last_lf}
use Rattle.globsift.specs.Output.{sifted, has_match, AppendsPrefix}
use Rattle.globsift.specs.declared.sifting.fault.SiftFault.{SiftFault}
use Rattle.globsift.specs.declared.sifting.fault.SiftFault.TheVariants.{Read, Write, OutOfMemory}

-- all of the bytes were written if the last argument is true, and otherwise a prefix of them
abbrev pub WritesPrefix : Option (List ℕ) → Option (List ℕ) → List ℕ → Bool → Type 0
WritesPrefix old new bytes true = Appends old new bytes
WritesPrefix old new bytes false = AppendsPrefix old new bytes

-- all of these bytes were written but `pending`, the last of them
abbrev pub WritesAllBut : Option (List ℕ) → Option (List ℕ) → List ℕ → List ℕ → Type 0
WritesAllBut old new pending bytes = (out : List ℕ) × Appends old new out × (out ++ pending ≡ bytes)

-- an error other than of reading, before which a prefix of these bytes was written
abbrev pub FailsMidway : Option (List ℕ) → Option (List ℕ) → List ℕ → SiftFault → Type 0
FailsMidway old new bytes Read = ⊥
FailsMidway old new bytes Write = AppendsPrefix old new bytes
FailsMidway old new bytes OutOfMemory = AppendsPrefix old new bytes

-- These bytes are whole lines, each with its LF: the lines of what follows come after theirs, and so does its last LF.
pub record IsWholeLines (bytes : List ℕ) : Type 0 where
  pub lines_go_on : (more : List ℕ) → lines (bytes ++ more) ≡ lines bytes ++ lines more
  pub last_goes_on : (more : List ℕ) → through_last_lf (bytes ++ more) ≡ bytes ++ through_last_lf more

-- These bytes were handled: they are whole lines and a rest with no LF. The output for the lines was written, or is pending after
-- earlier output. Nothing was output for the rest yet. `any` says whether a line was output.
pub record Handles (globs : List GlobValue) (numbered : Bool) (bytes rest : List ℕ) (old new : Option (List ℕ)) (pending pending' : List ℕ) (any any' : Bool) : Type 0 where
  pub whole : List ℕ
  pub bytes_are : bytes ≡ whole ++ rest
  pub no_lf : list_any is_lf rest ≡ false
  pub whole_lines : IsWholeLines whole
  pub out : List ℕ
  pub written : Appends old new out
  pub output : out ++ pending' ≡ pending ++ sifted globs numbered whole
  pub any_is : any' ≡ (any || has_match globs whole)
