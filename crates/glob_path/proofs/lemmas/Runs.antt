-- Runs of bytes that a text goes on with.
use Rattle.std.proofs.Common.{◌≡◌, ℕ, ◌+◌, ◌==◌, Bool, true, false, cond, List, [], ◌∷◌, ◌++◌, Option, Some, None, drop, refl, sym, ap, ◌∙◌}
use Rattle.std.specs.Prelude.{slice_get}
use Rattle.std.proofs.lemmas.Bool.{cond-true, cond-false, ne_eqb, eq-eqb}
use Rattle.glob_path.specs.inner.Nodes.{after_run, past, follow}
use Rattle.glob_path.proofs.lemmas.Walks.{drop_some, drop_none}

-- one byte of a run
pub past_byte : (q : Bool) (o : Option (List ℕ)) (f : List ℕ → List ℕ) (x : List ℕ) → x ≡ follow o f → cond q x [] ≡ follow (cond q o None) f
past_byte true o f x e = e
past_byte false o f x e = refl

pub past_same : (o : Option (List ℕ)) (f g : List ℕ → List ℕ) → ((v : List ℕ) → f v ≡ g v) → follow o f ≡ follow o g
past_same None f g h = refl
past_same (Some v) f g h = h v

push_byte : (q : Bool) (o p : Option (List ℕ)) (f g : List ℕ → List ℕ) → follow o f ≡ follow p g → follow (cond q o None) f ≡ follow (cond q p None) g
push_byte true o p f g e = e
push_byte false o p f g e = refl

-- one more byte at the end of a run
pub past_push : (run : List ℕ) (x : ℕ) (f : List ℕ → List ℕ) (w : List ℕ) → past (run ++ x ∷ []) f w ≡ past run (past (x ∷ []) f) w
past_push [] x f w = refl
past_push (r ∷ run) x f [] = refl
past_push (r ∷ run) x f (b ∷ w) = push_byte (r == b) (after_run (run ++ x ∷ []) w) (after_run run w) f (past (x ∷ []) f) (past_push run x f w)

-- where the next byte of a path is that of the run
pub run_on : (r i : ℕ) (rs q : List ℕ) → slice_get q i ≡ Some r → after_run (r ∷ rs) (drop i q) ≡ after_run rs (drop (i + 1) q)
run_on r i rs q e = ap (after_run (r ∷ rs)) (drop_some q i r e) ∙ cond-true (r == r) (after_run rs (drop (i + 1) q)) None (eq-eqb r r refl)

-- where the path ends
pub run_ends : (r i : ℕ) (rs q : List ℕ) → slice_get q i ≡ None → after_run (r ∷ rs) (drop i q) ≡ None
run_ends r i rs q e = ap (after_run (r ∷ rs)) (drop_none q i e)

-- where its next byte is another
pub run_parts : (r b i : ℕ) (rs q : List ℕ) → slice_get q i ≡ Some b → (b ≡ r → ⊥) → after_run (r ∷ rs) (drop i q) ≡ None
run_parts r b i rs q e n =
    ap (after_run (r ∷ rs)) (drop_some q i b e)
    ∙ cond-false (r == b) (after_run rs (drop (i + 1) q)) None (ne_eqb r b (λ h. n (sym h)))
