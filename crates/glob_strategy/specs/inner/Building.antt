-- The texts that the states of tokens match.
use Rattle.std.specs.Prelude.{◌≡◌, ◌↔◌, ℕ, Bool, List, length, IsTrue}
use Rattle.glob_syntax.specs.declared.options.Options.{Options}
use Rattle.glob_syntax.specs.Token.{Token, Tokens}
use Rattle.byte_nfa.specs.Steps.{State, Accepts}
use Rattle.byte_nfa.specs.Building.{Agrees}
use Rattle.glob_syntax.specs.TokensMatch.{tokens_match}
use Rattle.bit_sets.specs.Texts.{AllBytes}
use Rattle.glob_strategy.specs.inner.TokenStates.{IsSpelled, ReadsEach, IsCharacter, IsBuilt, IsBuiltToken}

-- In each of these, the states that were added lead from s to e, in each list of states that agrees with them.

-- the states of these bytes of a literal
abbrev pub BuildsText : Options → List ℕ → List State → List State → ℕ → ℕ → Type 0
BuildsText o bytes old new s e = (a : List State) → Agrees a new (length old) (length new) → IsSpelled o a s bytes e

-- states that read bytes that pass these tests, in order
abbrev pub BuildsRow : List (ℕ → Bool) → List State → List State → ℕ → ℕ → Type 0
BuildsRow tests old new s e = (a : List State) → Agrees a new (length old) (length new) → ReadsEach a s tests e

-- the states of a `?` that matches a whole character
abbrev pub BuildsCharacter : Options → List State → List State → ℕ → ℕ → Type 0
BuildsCharacter o old new s e = (a : List State) → Agrees a new (length old) (length new) → IsCharacter o a s e

-- the states of this token
abbrev pub BuildsToken : Options → Token → List State → List State → ℕ → ℕ → Type 0
BuildsToken o t old new s e = (a : List State) → Agrees a new (length old) (length new) → IsBuiltToken o a s t e

-- the states of these tokens, one after another
abbrev pub Builds : Options → Tokens → List State → List State → ℕ → ℕ → Type 0
Builds o ts old new s e = (a : List State) → Agrees a new (length old) (length new) → IsBuilt o a s ts e

-- from s the states that were added accept the paths that the tokens of a whole glob match, for their index alone
abbrev pub BuildsWhole : Options → Tokens → ℕ → List State → List State → ℕ → Type 0
BuildsWhole o ts j old new s = (a : List State) → Agrees a new (length old) (length new) → (path : List ℕ) (k : ℕ) → AllBytes path
    → Accepts a k s path ↔ ((j ≡ k) × IsTrue (tokens_match o ts path))
