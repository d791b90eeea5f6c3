-- Texts as lists of bytes.
use Rattle.std.proofs.Common.{◌≡◌, ℕ, suc, ◌<◌, List, [], ◌∷◌, ◌++◌, slice_index, subst}
use Rattle.bit_sets.specs.Texts.{AllBytes}

pub all_bytes : (path : List ℕ) → ((i : ℕ) → slice_index path i < 256) → AllBytes path
all_bytes [] h = tt
all_bytes (c ∷ cs) h = (h 0, all_bytes cs (λ i. h (suc i)))

pub rest_bytes : (p q : List ℕ) → AllBytes (p ++ q) → AllBytes q
rest_bytes [] q h = h
rest_bytes (c ∷ p) q h = rest_bytes p q h.1

pub front_bytes : (p q : List ℕ) → AllBytes (p ++ q) → AllBytes p
front_bytes [] q h = tt
front_bytes (c ∷ p) q h = (h.0, front_bytes p q h.1)

pub both_bytes : (p q : List ℕ) → AllBytes p → AllBytes q → AllBytes (p ++ q)
both_bytes [] q h g = g
both_bytes (c ∷ p) q h g = (h.0, both_bytes p q h.1 g)

-- of a text that is cut in two
pub right_of : (w x y : List ℕ) → w ≡ x ++ y → AllBytes w → AllBytes y
right_of w x y e h = rest_bytes x y (subst AllBytes e h)

pub left_of : (w x y : List ℕ) → w ≡ x ++ y → AllBytes w → AllBytes x
left_of w x y e h = front_bytes x y (subst AllBytes e h)
