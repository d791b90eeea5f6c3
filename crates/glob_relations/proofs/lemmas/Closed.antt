-- Texts that do not lead below an ignored folder.
use Rattle.std.proofs.Common.{◌≡◌, ℕ, ◌+◌, Bool, true, false, List, [], ◌∷◌, ◌++◌, refl, ap, sym, subst, ◌∙◌}
use Rattle.std.specs.Prelude.{◌↔◌, ◌==◌, if◌then◌else◌}
use Rattle.std.proofs.lemmas.Bool.{eqb-true}
use Rattle.glob_relations.specs.declared.domain.Kind.TheVariants.{Slash, Point, Zero, Other}
use Rattle.glob_relations.specs.inner.Closed.{IsClosedBy, IsClosed, IsOpen}
use Rattle.glob_relations.specs.inner.Places.{kind_of}

-- a byte that is read like a `/` is one
pub slash_is : (b c : ℕ) → kind_of b ≡ kind_of c → b ≡ 47 → c ≡ 47
slash_is b c same is = eqb-true c 47 (other (c == 47) (c == 46) (c == 0) (sym (ap kind_of is) ∙ same))
  where
    other : (p q r : Bool) → Slash ≡ (if p then Slash else (if q then Point else (if r then Zero else Other))) → p ≡ true
    other true q r e = refl
    other false true r e = absurd cc
    other false false true e = absurd cc
    other false false false e = absurd cc

module _ (ignores : List Bool) (first : ℕ) where
  pub closed_by : (P Q : ℕ → Type 0) → ((k : ℕ) → P k ↔ Q k) → (k : ℕ) → IsClosedBy ignores first P k → IsClosedBy ignores first Q k
  closed_by P Q same k (at, has, none) = (at, (same (first + k)).0 has, λ j later within h. none j later within ((same (first + j)).1 h))

  pub closed_iff : (P Q : ℕ → Type 0) → ((k : ℕ) → P k ↔ Q k) → IsClosed ignores first P → IsClosed ignores first Q
  closed_iff P Q same (k, by) = (k, closed_by P Q same k by)

  module _ (P Q : List ℕ → ℕ → Type 0) where
    pub open_iff : (y : List ℕ) → ((z : List ℕ) (k : ℕ) → P z k ↔ Q z k) → IsOpen ignores first P y → IsOpen ignores first Q y
    open_iff y same clear folder rest is closed = clear folder rest is (closed_iff (Q folder) (P folder) (λ k. ((same folder k).1, (same folder k).0)) closed)

    -- what stands after a byte
    pub open_next : (b : ℕ) (y : List ℕ) → ((z : List ℕ) (k : ℕ) → P (b ∷ z) k ↔ Q z k) → IsOpen ignores first P (b ∷ y) → IsOpen ignores first Q y
    open_next b y same clear folder rest is closed =
        clear (b ∷ folder) rest (ap (λ (z : List ℕ). b ∷ z) is) (closed_iff (Q folder) (P (b ∷ folder)) (λ k. ((same folder k).1, (same folder k).0)) closed)

    pub open_before : (b : ℕ) (y : List ℕ) → ((z : List ℕ) (k : ℕ) → P (b ∷ z) k ↔ Q z k) → (b ≡ 47 → IsClosed ignores first (P []) → ⊥) → IsOpen ignores first Q y → IsOpen ignores first P (b ∷ y)
    open_before b y same none clear [] rest is closed =
        let here : b ≡ 47 = cc in
        none here closed
    open_before b y same none clear (c ∷ folder) rest is closed =
        let byte : c ≡ b = cc in
        let after : y ≡ folder ++ 47 ∷ rest = cc in
        clear folder rest after (closed_iff (P (b ∷ folder)) (Q folder) (same folder) (subst (λ (d : ℕ). IsClosed ignores first (P (d ∷ folder))) byte closed))

  pub open_end : (P : List ℕ → ℕ → Type 0) → IsOpen ignores first P []
  open_end P [] rest is closed = cc
  open_end P (c ∷ folder) rest is closed = cc

  -- bytes that are read alike
  pub open_alike : (P : List ℕ → ℕ → Type 0) (b c : ℕ) (y : List ℕ) → ((z : List ℕ) (k : ℕ) → P (b ∷ z) k ↔ P (c ∷ z) k) → (b ≡ 47 → c ≡ 47) → IsOpen ignores first P (c ∷ y) → IsOpen ignores first P (b ∷ y)
  open_alike P b c y same slash clear = open_before P (λ z. P (c ∷ z)) b y same (λ is closed. clear [] y (ap (λ (d : ℕ). d ∷ y) (slash is)) closed)
      (open_next P (λ z. P (c ∷ z)) c y (λ z k. (λ h. h, λ h. h)) clear)
