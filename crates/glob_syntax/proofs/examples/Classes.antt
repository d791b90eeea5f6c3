-- Examples of class bodies under the default options: whether the class is negated, and its ranges in order. Each example is
-- computed. In `spans` each two characters are the ends of one range; a member alone is a range from itself to itself.
use Rattle.std.specs.Prelude.{[], ◌∷◌, true, false, Ok, codes, refl}
use Rattle.glob_syntax.specs.declared.options.TheConstants.Options.{DEFAULT}
use Rattle.glob_syntax.specs.Token.{Class}
use Rattle.glob_syntax.specs.Reading.{reading}
use Rattle.glob_syntax.proofs.examples.Unfoldings.{reading_on_literals}
use Rattle.glob_syntax.proofs.examples.Words.{AreEqual, tokens, spans}

reading_rows : AreEqual (
    (reading DEFAULT (codes "[a]"), Ok (tokens (Class false (spans "aa") ∷ [])))  -- one member
    ∷ (reading DEFAULT (codes "[!a]"), Ok (tokens (Class true (spans "aa") ∷ [])))  -- negated by bang
    ∷ (reading DEFAULT (codes "[^a]"), Ok (tokens (Class true (spans "aa") ∷ [])))  -- negated by caret
    ∷ (reading DEFAULT (codes "[a-z]"), Ok (tokens (Class false (spans "az") ∷ [])))  -- letters
    ∷ (reading DEFAULT (codes "[-]"), Ok (tokens (Class false (spans "--") ∷ [])))  -- hyphen alone
    ∷ (reading DEFAULT (codes "[]]"), Ok (tokens (Class false (spans "]]") ∷ [])))  -- bracket as first member
    ∷ (reading DEFAULT (codes "[*]"), Ok (tokens (Class false (spans "**") ∷ [])))  -- star as member
    ∷ (reading DEFAULT (codes "[!!]"), Ok (tokens (Class true (spans "!!") ∷ [])))  -- bang negated
    ∷ (reading DEFAULT (codes "[!^]"), Ok (tokens (Class true (spans "^^") ∷ [])))  -- caret negated
    ∷ (reading DEFAULT (codes "[a-]"), Ok (tokens (Class false (spans "aa--") ∷ [])))  -- last hyphen
    ∷ (reading DEFAULT (codes "[-a-z]"), Ok (tokens (Class false (spans "--az") ∷ [])))  -- first hyphen
    ∷ (reading DEFAULT (codes "[a-z-]"), Ok (tokens (Class false (spans "az--") ∷ [])))  -- hyphen after range
    ∷ (reading DEFAULT (codes "[-a-z-]"), Ok (tokens (Class false (spans "--az--") ∷ [])))  -- hyphens about range
    ∷ (reading DEFAULT (codes "[]-z]"), Ok (tokens (Class false (spans "]z") ∷ [])))  -- range from bracket
    ∷ (reading DEFAULT (codes "[--z]"), Ok (tokens (Class false (spans "-z") ∷ [])))  -- range from hyphen
    ∷ (reading DEFAULT (codes "[ --]"), Ok (tokens (Class false (spans " -") ∷ [])))  -- range to hyphen
    ∷ (reading DEFAULT (codes "[0-9a-z]"), Ok (tokens (Class false (spans "09az") ∷ [])))  -- two ranges
    ∷ (reading DEFAULT (codes "[!0-9a-z]"), Ok (tokens (Class true (spans "09az") ∷ [])))  -- two ranges negated
    ∷ (reading DEFAULT (codes "[a-c-e]"), Ok (tokens (Class false (spans "ae") ∷ [])))  -- chain of two pairs
    ∷ (reading DEFAULT (codes "[a-c-b]"), Ok (tokens (Class false (spans "ab") ∷ [])))  -- chain that turns back
    ∷ (reading DEFAULT (codes "[a\\]"), Ok (tokens (Class false (spans "aa\\\\") ∷ [])))  -- backslash as member
    ∷ [])
unfolding reading_on_literals
reading_rows = refl

-- ---- more bodies

more_bodies : AreEqual (
    (reading DEFAULT (codes "[!]]"), Ok (tokens (Class true (spans "]]") ∷ [])))  -- bracket negated
    ∷ (reading DEFAULT (codes "[^-]"), Ok (tokens (Class true (spans "--") ∷ [])))  -- hyphen negated
    ∷ (reading DEFAULT (codes "[!^-a]"), Ok (tokens (Class true (spans "^a") ∷ [])))  -- caret after bang
    ∷ (reading DEFAULT (codes "[a-a]"), Ok (tokens (Class false (spans "aa") ∷ [])))  -- range of one
    ∷ (reading DEFAULT (codes "[---]"), Ok (tokens (Class false (spans "--") ∷ [])))  -- hyphen range of one
    ∷ (reading DEFAULT (codes "[----]"), Ok (tokens (Class false (spans "----") ∷ [])))  -- hyphen range and last hyphen
    ∷ (reading DEFAULT (codes "[a-c-e-]"), Ok (tokens (Class false (spans "ae--") ∷ [])))  -- chain then hyphen
    ∷ (reading DEFAULT (codes "[a-c-ex]"), Ok (tokens (Class false (spans "aexx") ∷ [])))  -- chain then member
    ∷ (reading DEFAULT (codes "[{,}?*\\/]"), Ok (tokens (Class false (spans "{{,,}}??**\\\\//") ∷ [])))  -- all that is special outside
    ∷ (reading DEFAULT (codes "[é-ü☃]"), Ok (tokens (Class false (spans "éü☃☃") ∷ [])))  -- past ascii
    ∷ [])
unfolding reading_on_literals
more_bodies = refl
