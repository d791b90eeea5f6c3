-- Keys at the beginning and at the end of a path, and below a folder.
use Rattle.std.proofs.Common.{◌≡◌, ℕ, ◌⊎◌, inl, inr, Bool, true, false, true≢false, List, [], ◌∷◌, ◌++◌, drop, IsTrue, refl, ap, sym, ◌∙◌}
use Rattle.std.specs.Prelude.{◌↔◌, ◌≢◌}
use Rattle.std.proofs.Math.Logic.{⊎_elim}
use Rattle.std.proofs.lemmas.List.{append_assoc, append_cancel_left, append_cancel_right}
use Rattle.glob_path.specs.Below.{BeginsWith, folder_start}
use Rattle.glob_path.specs.Key.{ComponentSuffix, KeyMatches, KeyMayMatchBelow, Prefix, Literal}

-- ---- the end of a path

-- The path is the key, or ends with `/` and it, if what is before the key is nothing or ends with `/`.
pub front_ends : (path key front : List ℕ) (ends : Bool) → path ≡ front ++ key → front ≢ []
    → IsTrue ends ↔ ((x : List ℕ) × (x ++ 47 ∷ [] ≡ front)) → IsTrue ends ↔ KeyMatches (ComponentSuffix key) path
front_ends path key front ends cut some h = (
  λ yes. let (x, is) = h.0 yes in inr (x, sym (append_assoc x (47 ∷ []) key) ∙ ap (λ l. l ++ key) is ∙ sym cut),
  λ has. ⊎_elim {C = IsTrue ends}
      (λ is. absurd (some (append_cancel_right front [] key (sym cut ∙ is))))
      (λ (x, is). h.1 (x, append_cancel_right (x ++ 47 ∷ []) front key (append_assoc x (47 ∷ []) key ∙ is ∙ cut))) has,
)

-- A path that does not end with the key has it not as its last components either.
pub no_front : (path key : List ℕ) → ((front : List ℕ) → path ≢ front ++ key) → IsTrue false ↔ KeyMatches (ComponentSuffix key) path
no_front path key none = (
  λ no. absurd (true≢false (sym no)),
  λ has. ⊎_elim {C = IsTrue false} (λ is. absurd (none [] is)) (λ (x, is). absurd (none (x ++ 47 ∷ []) (sym is ∙ sym (append_assoc x (47 ∷ []) key)))) has,
)

-- ---- the beginning of a folder

-- the key begins with the folder and a `/`, if what is behind the folder begins with a `/`
pub rest_begins : (key folder rest : List ℕ) (begins : Bool) → key ≡ folder ++ rest → (begins ≡ true → rest ≡ 47 ∷ drop 1 rest) → ((z : List ℕ) → rest ≡ 47 ∷ z → begins ≡ true)
    → IsTrue begins ↔ KeyMayMatchBelow (Literal key) folder
rest_begins key folder rest begins cut some all = (
  λ yes. (drop 1 rest, append_assoc folder (47 ∷ []) (drop 1 rest) ∙ ap (λ l. folder ++ l) (sym (some yes)) ∙ sym cut),
  λ (z, is). all z (append_cancel_left folder rest (47 ∷ z) (sym cut ∙ sym is ∙ append_assoc folder (47 ∷ []) z)),
)

-- a key that does not begin with the folder does not begin with it and a `/` either
pub no_rest : (key folder : List ℕ) → ((rest : List ℕ) → key ≢ folder ++ rest) → IsTrue false ↔ KeyMayMatchBelow (Literal key) folder
no_rest key folder none = (
  λ no. absurd (true≢false (sym no)),
  λ (z, is). absurd (none (47 ∷ z) (sym is ∙ append_assoc folder (47 ∷ []) z)),
)

-- the folder and a `/` begin with the key: then the folder does, or the key is all of that
begins_shorter : (folder key z : List ℕ) → key ++ z ≡ folder ++ 47 ∷ [] → BeginsWith key (folder_start folder) ⊎ BeginsWith folder key
begins_shorter folder [] z cut = inr (folder, refl)
begins_shorter [] (k ∷ ks) z cut = let first : k ≡ 47 = cc in inl (ks, ap (λ c. c ∷ ks) (sym first))
begins_shorter (c ∷ folder) (k ∷ ks) z cut =
    let first : k ≡ c = cc in
    let others : ks ++ z ≡ folder ++ 47 ∷ [] = cc in
    ⊎_elim {C = BeginsWith (k ∷ ks) (folder_start (c ∷ folder)) ⊎ BeginsWith (c ∷ folder) (k ∷ ks)}
    (λ (r, is). inl (r, (λ i. sym first i ∷ is i)))
    (λ (r, is). inr (r, (λ i. first i ∷ is i)))
    (begins_shorter folder ks z others)

-- whether some path below the folder begins with the key, if the key does not begin with the folder and a `/`
pub may_begin : (folder key : List ℕ) (found : Bool) → (KeyMayMatchBelow (Literal key) folder → ⊥) → IsTrue found ↔ KeyMatches (Prefix key) folder
    → IsTrue found ↔ KeyMayMatchBelow (Prefix key) folder
may_begin folder key found longer h = (
  λ yes. let (r, is) = h.0 yes in inr (r ++ 47 ∷ [], sym (append_assoc key r (47 ∷ [])) ∙ ap (λ l. l ++ 47 ∷ []) is),
  λ has. ⊎_elim {C = IsTrue found} (λ long. absurd (longer long))
      (λ (z, is). ⊎_elim {C = IsTrue found} (λ long. absurd (longer long)) (λ begins. h.1 begins) (begins_shorter folder key z is)) has,
)
