-- What a search tells.
use Rattle.std.proofs.Common.{ℕ, Bool, true, false, List, IsTrue, refl}
use Rattle.std.specs.Prelude.{◌↔◌, IsFalse}
use Rattle.glob_relations.specs.Shortest.{IsShortest}

pub is_false : (b : Bool) → (IsTrue b → ⊥) → IsFalse b
is_false true h = absurd (h refl)
is_false false h = refl

pub is_true : (b : Bool) → (IsFalse b → ⊥) → IsTrue b
is_true true h = refl
is_true false h = absurd (h refl)

-- the shortest of texts that have a property has each property that the same texts have
pub shortest_same : (P Q : List ℕ → Type 0) (text : List ℕ) → ((y : List ℕ) → P y ↔ Q y) → IsShortest P text → IsShortest Q text
shortest_same P Q text same (has, least) = ((same text).0 has, λ other q. least other ((same other).1 q))
