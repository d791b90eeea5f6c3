-- Outputs: how they are made, and their effect on lines and bytes. Only private functions cite this.
use Rattle.std.specs.Prelude.{◌≡◌, ℕ, List, ◌++◌, Bool, true, false, ◌||◌, Option, Result, MatchResult}
use Rattle.std.specs.Io.KnownBytes.{Appends}
use Rattle.globset.specs.Answer.{matching_indexes}
use Rattle.globset.specs.GlobMatches.{GlobValue}
use Rattle.globset.specs.SetValue.{set_globs}
use Rattle.globsift.specs.Output.{has_match, index_column, is_matched, line_output, sifted}
use Rattle.globsift.specs.declared.sifting.fault.SiftFault.{SiftFault}
use Rattle.globsift.specs.declared.sifting.output.Output.{Output}
use Rattle.globsift.specs.inner.Sifting.{FailsMidway, Handles, WritesAllBut}

-- both are made with the same set, and in the same form
abbrev pub AreEquivalent : Output → Output → Type 0
AreEquivalent old new = (new.searcher.set ≡ old.searcher.set) × (new.numbered ≡ old.numbered)

-- the globs of its set
abbrev pub globs_of : Output → List GlobValue
globs_of output = set_globs output.searcher.set

-- the pending output, and then the output for a line
abbrev pub with_line : Output → List ℕ → List ℕ
with_line output line = output.pending.items ++ line_output (globs_of output) output.numbered line

-- the pending output, and then the output for the lines of these bytes
abbrev pub with_bytes : Output → List ℕ → List ℕ
with_bytes output bytes = output.pending.items ++ sifted (globs_of output) output.numbered bytes

-- some line is output, if any was before or the set matches this line
abbrev pub any_with_line : Output → List ℕ → Bool
any_with_line output line = output.any_written || is_matched (globs_of output) line

-- some line is output, if any was before or the set matches some line of these bytes
abbrev pub any_with_bytes : Output → List ℕ → Bool
any_with_bytes output bytes = output.any_written || has_match (globs_of output) bytes

-- `told` says whether the line is matched, and its index column is pending after what was, if it is.
abbrev pub PushesColumn : Output → Output → List ℕ → Bool → Type 0
PushesColumn old new line told = (told ≡ is_matched (globs_of old) line) × (new.any_written ≡ old.any_written)
    × (told ≡ true → new.pending.items ≡ old.pending.items ++ index_column old.numbered (matching_indexes (globs_of old) line))
    × (told ≡ false → new.pending.items ≡ old.pending.items)

-- The output for a line was written or is pending; after an error a prefix of it was written. The writer holds `held` before and
-- `held'` after.
abbrev pub HandlesLine : {X : Type 0} → Output → Output → (held held' : Option (List ℕ)) → List ℕ → Result X SiftFault → Type 0
HandlesLine old new held held' line result = MatchResult result
    (λ _. WritesAllBut held held' new.pending.items (with_line old line) × (new.any_written ≡ any_with_line old line))
    (FailsMidway held held' (with_line old line))

-- So were all whole lines of these bytes, whose rest is in the result or the sifter.
abbrev pub HandlesBytes : {X : Type 0} → Output → Output → (held held' : Option (List ℕ)) → List ℕ → (X → List ℕ) → Result X SiftFault → Type 0
HandlesBytes old new held held' bytes rest result = MatchResult result
    (λ x. Handles (globs_of old) old.numbered bytes (rest x) held held' old.pending.items new.pending.items old.any_written new.any_written)
    (FailsMidway held held' (with_bytes old bytes))

-- So were all lines of these bytes; the last may have no LF.
abbrev pub HandlesAll : {X : Type 0} → Output → Output → (held held' : Option (List ℕ)) → List ℕ → Result X SiftFault → Type 0
HandlesAll old new held held' bytes result = MatchResult result
    (λ _. WritesAllBut held held' new.pending.items (with_bytes old bytes) × (new.any_written ≡ any_with_bytes old bytes))
    (FailsMidway held held' (with_bytes old bytes))

-- All of that was written, and the result says whether some line is output.
abbrev pub WritesAll : Output → (held held' : Option (List ℕ)) → List ℕ → Result Bool SiftFault → Type 0
WritesAll old held held' bytes result = MatchResult result
    (λ any. Appends held held' (with_bytes old bytes) × (any ≡ any_with_bytes old bytes))
    (FailsMidway held held' (with_bytes old bytes))
