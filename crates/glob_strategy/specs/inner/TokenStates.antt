-- The states of tokens, in an automaton over bytes.
use Rattle.std.specs.Prelude.{◌≡◌, ℕ, Bool, ◌==◌, ◌||◌, ◌⊎◌, List, [], ◌∷◌, IsTrue, IsFalse, encode_utf8}
use Rattle.glob_syntax.specs.declared.options.Options.{Options}
use Rattle.glob_syntax.specs.Token.{Token, Literal, Any, ZeroOrMore, RecursivePrefix, RecursiveSuffix, RecursiveZeroOrMore, Class, Group, Tokens, end, and_then, Branches, none, branch}
use Rattle.glob_syntax.specs.ClassBytes.{class_has}
use Rattle.std.specs.Str.{bytes_eq}
use Rattle.glob_syntax.specs.TokenMatches.{slash, is_wild, compared}
use Rattle.glob_syntax.specs.Blank.{is_kept, any_kept}
use Rattle.glob_syntax.specs.inner.CharacterRows.{wild_rows}
use Rattle.bit_sets.specs.Texts.{ends_with, is_empty}
use Rattle.byte_nfa.specs.Steps.{State, union_state, state}
use Rattle.byte_nfa.specs.Leading.{is_any_byte, Leads, Reads, Stays}

-- the byte is `/`
abbrev pub is_slash : ℕ → Bool
is_slash c = c == slash

-- ---- whole characters

-- the states from s on read bytes that pass these tests, in order, and lead to e
abbrev pub ReadsEach : List State → ℕ → List (ℕ → Bool) → ℕ → Type 0
ReadsEach a s [] e = s ≡ e
ReadsEach a s (test ∷ tests) e = (t : ℕ) × Reads a s test t × ReadsEach a t tests e

-- there are as many states as rows of tests, and the states from each on read what passes its row, and lead to e
abbrev pub AreRead : List State → List ℕ → List (List (ℕ → Bool)) → ℕ → Type 0
AreRead a [] [] e = Unit {0}
AreRead a [] (row ∷ rows) e = ⊥
AreRead a (s ∷ ss) [] e = ⊥
AreRead a (s ∷ ss) (row ∷ rows) e = ReadsEach a s row e × AreRead a ss rows e

-- the states of such a `?`: s skips to a state for each row
abbrev pub IsCharacter : Options → List State → ℕ → ℕ → Type 0
IsCharacter o a s e = (ss : List ℕ) × (state a s ≡ union_state ss) × AreRead a ss (wild_rows o) e

-- ---- tokens

-- the matches of these bytes of a literal
abbrev pub spells : Options → List ℕ → List ℕ → Bool
spells o bytes y = bytes_eq (compared o y) (compared o bytes)

-- the matches of a byte of a literal
abbrev pub is_letter : Options → ℕ → ℕ → Bool
is_letter o b c = spells o (b ∷ []) (c ∷ [])

-- the states from s on are the states of these bytes of a literal, and lead to e
abbrev pub IsSpelled : Options → List State → ℕ → List ℕ → ℕ → Type 0
IsSpelled o a s [] e = s ≡ e
IsSpelled o a s (b ∷ bs) e = (t : ℕ) × Reads a s (is_letter o b) t × IsSpelled o a t bs e

-- nothing, or any bytes that end in `/`
abbrev pub IsToSlash : List State → ℕ → ℕ → Type 0
IsToSlash a s e = Leads a s (λ y. is_empty y || ends_with slash y) e

-- the states from s on are the states of the tokens, and lead to e
abbrev mutual
  pub IsBuilt : Options → List State → ℕ → Tokens → ℕ → Type 0
  IsBuilt o a s end e = s ≡ e
  IsBuilt o a s (and_then t ts) e = (u : ℕ) × IsBuiltToken o a s t u × IsBuilt o a u ts e

  -- the same of one token
  pub IsBuiltToken : Options → List State → ℕ → Token → ℕ → Type 0
  IsBuiltToken o a s (Literal c) e = IsSpelled o a s (encode_utf8 c) e
  IsBuiltToken o a s Any e = (IsTrue o.whole_character × IsCharacter o a s e) ⊎ (IsFalse o.whole_character × Reads a s (is_wild o) e)
  IsBuiltToken o a s ZeroOrMore e = Stays a s (is_wild o) e
  IsBuiltToken o a s RecursivePrefix e = IsToSlash a s e
  IsBuiltToken o a s RecursiveSuffix e = (t : ℕ) × Reads a s is_slash t × Stays a t is_any_byte e
  IsBuiltToken o a s RecursiveZeroOrMore e = (t : ℕ) × Reads a s is_slash t × IsToSlash a t e
  IsBuiltToken o a s (Class negated rs) e = Reads a s (class_has o negated rs) e
  -- it skips to its kept branches, or to e where none is kept
  IsBuiltToken o a s (Group bs) e = (ss : List ℕ) × (state a s ≡ union_state ss) × ((IsTrue (any_kept o bs) × AreBuilt o a ss bs e) ⊎ (IsFalse (any_kept o bs) × (ss ≡ e ∷ [])))

  -- the kept branches begin at these states, and lead to e
  pub AreBuilt : Options → List State → List ℕ → Branches → ℕ → Type 0
  AreBuilt o a ss none e = ss ≡ []
  AreBuilt o a ss (branch ts bs) e =
      (IsTrue (is_kept o ts) × ((s : ℕ) × (us : List ℕ) × (ss ≡ s ∷ us) × IsBuilt o a s ts e × AreBuilt o a us bs e))
      ⊎ (IsFalse (is_kept o ts) × AreBuilt o a ss bs e)
