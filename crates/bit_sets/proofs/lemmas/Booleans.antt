-- Facts about truth values and propositions.
use Rattle.std.proofs.Common.{◌≡◌, Bool, true, false, true≢false, ◌&&◌, ◌||◌, IsTrue, refl, sym}
use Rattle.std.specs.Prelude.{◌↔◌}
pub use Rattle.std.proofs.lemmas.Bool.{and_from as and_both, or_left as or_first, or_right as or_second, or_cases as or_either}

pub and_first : (x y : Bool) → (x && y) ≡ true → x ≡ true
and_first true y e = refl
and_first false y e = e

pub and_second : (x y : Bool) → (x && y) ≡ true → y ≡ true
and_second true y e = e
and_second false y e = absurd (true≢false (sym e))

pub and_none : (x : Bool) → (x && false) ≡ false
and_none true = refl
and_none false = refl

pub or_assoc : (x y z : Bool) → (x || (y || z)) ≡ ((x || y) || z)
or_assoc true y z = refl
or_assoc false y z = refl

-- two truth values that are true together are equal
pub same_tests : (x y : Bool) → (x ≡ true → y ≡ true) → (y ≡ true → x ≡ true) → x ≡ y
same_tests true y f g = sym (f refl)
same_tests false true f g = g refl
same_tests false false f g = refl

pub same_truth : (x y : Bool) → IsTrue x ↔ IsTrue y → x ≡ y
same_truth x y h = same_tests x y h.0 h.1

-- ---- propositions

pub iff_trans : {A B C : Type 0} → A ↔ B → B ↔ C → A ↔ C
iff_trans f g = (λ a. g.0 (f.0 a), λ c. f.1 (g.1 c))
