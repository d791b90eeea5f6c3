-- Tokens that share an automaton: each list of them has an index, which a run finds where they match the path.
use Rattle.std.specs.Prelude.{◌≡◌, ℕ, ◌⊎◌, ◌↔◌, List, [], ◌∷◌, length, IsTrue}
use Rattle.glob_syntax.specs.declared.options.Options.{Options}
use Rattle.glob_syntax.specs.Token.{Tokens}
use Rattle.glob_syntax.specs.TokensMatch.{tokens_match}
use Rattle.glob_syntax.specs.After.{MeanAfter}
use Rattle.byte_nfa.specs.Steps.{State, HasNumber, Accepts, NfaValue}
use Rattle.byte_nfa.specs.Building.{Agrees}
use Rattle.bit_sets.specs.Texts.{AllBytes}

-- tokens, the options that they are matched under, and the index that they have in the automaton
pub record IndexedTokens : Type 0 where
  pub options : Options
  pub tokens : Tokens
  pub index : ℕ

-- these three as a value
abbrev pub indexed : Options → Tokens → ℕ → IndexedTokens
indexed o ts j = record {
  options = o;
  tokens = ts;
  index = j;
}

-- the tokens have the index k, and match the path
abbrev pub Matches : IndexedTokens → List ℕ → ℕ → Type 0
Matches x path k = (x.index ≡ k) × IsTrue (tokens_match x.options x.tokens path)

-- some tokens of the index k match the path
abbrev pub SomeMatches : List IndexedTokens → List ℕ → ℕ → Type 0
SomeMatches [] path k = ⊥
SomeMatches (x ∷ xs) path k = Matches x path k ⊎ SomeMatches xs path k

-- some of the tokens match some path that begins with y, and has bytes alone after it
abbrev pub SomeMeanAfter : List IndexedTokens → List ℕ → Type 0
SomeMeanAfter [] y = ⊥
SomeMeanAfter (x ∷ xs) y = MeanAfter x.options x.tokens y ⊎ SomeMeanAfter xs y

-- From its starts the automaton accepts the paths that these tokens match, each for its index. So does each automaton with
-- the same starts that begins with these states.
abbrev pub IsFor : NfaValue → List IndexedTokens → Type 0
IsFor m xs = (a : List State) → Agrees a m.states 0 (length m.states) → (path : List ℕ) (k : ℕ) → AllBytes path
    → ((s : ℕ) × HasNumber s m.starts × Accepts a k s path) ↔ SomeMatches xs path k
