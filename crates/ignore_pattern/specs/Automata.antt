-- The automaton of the patterns of an ignore file.
use Rattle.std.specs.Prelude.{◌≡◌, ℕ, zero, suc, ◌+◌, ◌<◌, ◌⊎◌, ◌↔◌, Bool, false, List, [], ◌∷◌, ◌++◌, length, IsTrue, if◌then◌else◌}
use Rattle.bit_sets.specs.Texts.{AllBytes}
use Rattle.byte_nfa.specs.Steps.{NfaValue, IsReached}
use Rattle.ignore_pattern.specs.Patterns.{Pattern, pattern_matches}

-- the pattern of the number k, counted from 0, matches the path
abbrev pub matches_at : Bool → List Pattern → ℕ → List ℕ → Bool
matches_at ignore_case [] k path = false
matches_at ignore_case (p ∷ ps) zero path = pattern_matches ignore_case p path
matches_at ignore_case (p ∷ ps) (suc k) path = matches_at ignore_case ps k path

-- the pattern matches a folder above the path: bytes that a `/` follows in it
abbrev pub MatchesAbove : Bool → Pattern → List ℕ → Type 0
MatchesAbove ignore_case p path = (folder rest : List ℕ) × (path ≡ folder ++ 47 ∷ rest) × IsTrue (pattern_matches ignore_case p folder)

-- some of the patterns that are negated matches a folder above the path, or some of the others
abbrev pub SomeAbove : Bool → Bool → List Pattern → List ℕ → Type 0
SomeAbove ignore_case negated [] path = ⊥
SomeAbove ignore_case negated (p ∷ ps) path = ((p.negated ≡ negated) × MatchesAbove ignore_case p path) ⊎ SomeAbove ignore_case negated ps path

-- The index that tells of such patterns, where there are n patterns: that after theirs, or for negated patterns the next.
abbrev pub above_index : ℕ → Bool → ℕ
above_index n negated = if negated then n + 1 else n

-- The automaton has an index for each pattern, and a path leads to those of the patterns that match it. It has two more: a path
-- leads to one if a pattern that is not negated matches a folder above it, and to the other if a negated one does.
pub record IsAutomatonOf (ignore_case : Bool) (patterns : List Pattern) (m : NfaValue) : Type 0 where
  pub count : m.index_count ≡ length patterns + 2
  pub reached : (path : List ℕ) (k : ℕ) → AllBytes path → k < length patterns → IsReached m path k ↔ IsTrue (matches_at ignore_case patterns k path)
  pub above : (path : List ℕ) (negated : Bool) → AllBytes path → IsReached m path (above_index (length patterns) negated) ↔ SomeAbove ignore_case negated patterns path
