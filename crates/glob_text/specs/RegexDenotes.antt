-- Texts of regular expressions that match exactly what passes a test.
use Rattle.std.specs.Prelude.{◌↔◌, ℕ, Bool, List, IsTrue}
use Rattle.glob_text.specs.SmallRegex.{Expression, Spells, Denotes, AreBytes}

-- The text is a small regular expression: it has a tree, which denotes exactly the lists of bytes that pass the test.
abbrev pub HasExpression : (List ℕ → Bool) → List ℕ → Type 0
HasExpression test text = (x : Expression) × Spells x text × ((b : List ℕ) → AreBytes b → Denotes x b ↔ IsTrue (test b))
