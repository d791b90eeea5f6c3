-- Patterns in one automaton, to compare them: each has an index, and several may have the same.
use Rattle.std.specs.Prelude.{◌≡◌, ℕ, ◌⊎◌, ◌↔◌, Bool, List, [], ◌∷◌, length, IsTrue}
use Rattle.bit_sets.specs.Texts.{AllBytes}
use Rattle.byte_nfa.specs.Steps.{State, HasNumber, Accepts, NfaValue}
use Rattle.byte_nfa.specs.Building.{Agrees}
use Rattle.ignore_pattern.specs.Patterns.{Pattern, pattern_matches}

-- a pattern, and the index that it has in the automaton
pub record IndexedPattern : Type 0 where
  pub pattern : Pattern
  pub index : ℕ

-- these two as a value
abbrev pub indexed : ℕ → Pattern → IndexedPattern
indexed j p = record { pattern = p; index = j }

-- the pattern has the index k, and matches the path
abbrev pub MatchesFor : Bool → IndexedPattern → List ℕ → ℕ → Type 0
MatchesFor ignore_case x path k = (x.index ≡ k) × IsTrue (pattern_matches ignore_case x.pattern path)

-- some pattern of the index k matches the path
abbrev pub SomeMatchFor : Bool → List IndexedPattern → List ℕ → ℕ → Type 0
SomeMatchFor ignore_case [] path k = ⊥
SomeMatchFor ignore_case (x ∷ xs) path k = MatchesFor ignore_case x path k ⊎ SomeMatchFor ignore_case xs path k

-- From its starts the automaton accepts the paths that the patterns match, each for its index. So does each automaton with the
-- same starts that begins with these states.
abbrev pub Compares : Bool → List IndexedPattern → NfaValue → Type 0
Compares ignore_case xs m = (a : List State) → Agrees a m.states 0 (length m.states) → (path : List ℕ) (k : ℕ) → AllBytes path
    → ((s : ℕ) × HasNumber s m.starts × Accepts a k s path) ↔ SomeMatchFor ignore_case xs path k
