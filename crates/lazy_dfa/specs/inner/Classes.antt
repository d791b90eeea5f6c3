-- Classes of bytes that states read alike.
use Rattle.std.specs.Prelude.{ℕ, ◌<◌, List, slice_index}
use Rattle.byte_nfa.specs.Steps.{State}
use Rattle.byte_nfa.specs.Equivalent.{AreEquivalent}

-- each byte has a class, and is read as the first byte of the class
abbrev pub AreEquivalenceClasses : List State → List ℕ → List ℕ → ℕ → Type 0
AreEquivalenceClasses a class_of representatives count =
    (b : ℕ) → b < 256 → (slice_index class_of b < count) × AreEquivalent a (slice_index representatives (slice_index class_of b)) b
