-- Lists that are not unlike the empty one.
use Rattle.std.proofs.Common.{◌≡◌, ◌≢◌, ℕ, List, [], ◌∷◌, Bool, true, false, true≢false, IsTrue, refl, sym, ap, ◌∙◌}
use Rattle.std.specs.Prelude.{◌↔◌}
use Rattle.c_objects.specs.Paths.{one_if_any}

is_nil : List ℕ → Bool
is_nil [] = true
is_nil (x ∷ xs) = false

pub nil_where_none : (xs : List ℕ) (b : Bool) → IsTrue b ↔ (xs ≢ []) → b ≡ false → xs ≡ []
unfolding is_nil
nil_where_none [] b f q = refl
nil_where_none (x ∷ xs) b f q = absurd (true≢false (sym (f.1 (λ e. true≢false (sym (ap is_nil e)))) ∙ q))

pub one_where_some : (xs : List ℕ) (b : Bool) → IsTrue b ↔ (xs ≢ []) → b ≡ true → 1 ≡ one_if_any xs
one_where_some [] b f q = absurd (f.0 q refl)
one_where_some (x ∷ xs) b f q = refl

pub zero_where_none : (xs : List ℕ) (b : Bool) → IsTrue b ↔ (xs ≢ []) → b ≡ false → 0 ≡ one_if_any xs
zero_where_none xs b f q = ap one_if_any (sym (nil_where_none xs b f q))
