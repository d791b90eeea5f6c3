-- The states of elements and patterns, in an automaton over bytes.
use Rattle.std.specs.Prelude.{◌≡◌, ℕ, ◌<◌, ◌⊎◌, ◌↔◌, Bool, List, ◌∷◌, length, IsTrue}
use Rattle.bit_sets.specs.Texts.{AllBytes}
use Rattle.byte_nfa.specs.Steps.{State, HasNumber, Accepts, NfaValue}
use Rattle.byte_nfa.specs.Building.{Agrees}
use Rattle.ignore_pattern.specs.Patterns.{Pattern, pattern_matches}
use Rattle.ignore_pattern.specs.Automata.{matches_at, MatchesAbove, SomeAbove, above_index}

-- from the state b, `/` and whatever follows are accepted for the index f, and nothing else is
abbrev pub IsBelow : List State → ℕ → ℕ → Type 0
IsBelow a b f = (k : ℕ) (w : List ℕ) → AllBytes w → Accepts a k b w ↔ ((f ≡ k) × (rest : List ℕ) × (w ≡ 47 ∷ rest))

-- the states that were added are such states
abbrev pub BuildsBelow : ℕ → List State → List State → ℕ → Type 0
BuildsBelow f old new b = (a : List State) → Agrees a new (length old) (length new) → IsBelow a b f

-- the automaton has such a state, and so has each that begins with its states
pub record HasBelow (m : NfaValue) (b f : ℕ) : Type 0 where
  pub within : b < length m.states
  pub is_below : (a : List State) → Agrees a m.states 0 (length m.states) → IsBelow a b f

-- From s they accept the paths that the pattern matches, for the index j alone, and those that are below a folder that it
-- matches, for the index f, if from b `/` and whatever follows are.
abbrev pub BuildsPattern : Bool → Pattern → ℕ → ℕ → ℕ → List State → List State → ℕ → Type 0
BuildsPattern ignore_case p j f b old new s = (a : List State) → Agrees a new (length old) (length new) → IsBelow a b f → (path : List ℕ) (k : ℕ) → AllBytes path
    → Accepts a k s path ↔ (((j ≡ k) × IsTrue (pattern_matches ignore_case p path)) ⊎ ((f ≡ k) × MatchesAbove ignore_case p path))

-- from s they accept the paths that the pattern matches, for the index j alone, and nothing else
abbrev pub BuildsAlone : Bool → Pattern → ℕ → List State → List State → ℕ → Type 0
BuildsAlone ignore_case p j old new s = (a : List State) → Agrees a new (length old) (length new) → (path : List ℕ) (k : ℕ) → AllBytes path
    → Accepts a k s path ↔ ((j ≡ k) × IsTrue (pattern_matches ignore_case p path))

-- the index k tells of patterns that match folders above the path, where there are n patterns in the end
abbrev pub TellsAbove : Bool → List Pattern → ℕ → ℕ → List ℕ → Type 0
TellsAbove ignore_case ps n k path = (negated : Bool) × (above_index n negated ≡ k) × SomeAbove ignore_case negated ps path

-- From its starts the automaton accepts the paths that the patterns match, each for its number, and those below folders that the
-- patterns match, for the index that tells of them. So does each automaton with the same starts that begins with these states.
abbrev pub IsFor : Bool → List Pattern → ℕ → NfaValue → Type 0
IsFor ignore_case ps n m = (a : List State) → Agrees a m.states 0 (length m.states) → (path : List ℕ) (k : ℕ) → AllBytes path
    → ((s : ℕ) × HasNumber s m.starts × Accepts a k s path) ↔ (IsTrue (matches_at ignore_case ps k path) ⊎ TellsAbove ignore_case ps n k path)
