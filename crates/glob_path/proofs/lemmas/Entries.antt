-- What one more entry adds to the indexes under a key.
use Rattle.std.proofs.Common.{◌≡◌, ℕ, Bool, true, false, cond, List, [], ◌∷◌, ◌++◌, refl, ap, ◌∙◌}
use Rattle.std.specs.Str.{bytes_eq}
use Rattle.glob_path.specs.Entries.{Entry, entry, indexes_under}

-- the indexes, and one more at the end if the keys are the same
abbrev pub with_index : Bool → ℕ → List ℕ → List ℕ
with_index same index indexes = cond same (indexes ++ index ∷ []) indexes

none_before : (b : Bool) (i : ℕ) → cond b (i ∷ []) [] ≡ with_index b i []
none_before true i = refl
none_before false i = refl

some_before : (b c : Bool) (i x : ℕ) (xs : List ℕ) → cond b (x ∷ with_index c i xs) (with_index c i xs) ≡ with_index c i (cond b (x ∷ xs) xs)
some_before true true i x xs = refl
some_before true false i x xs = refl
some_before false c i x xs = refl

pub indexes_added : (es : List Entry) (key : List ℕ) (i : ℕ) (q : List ℕ) →
    indexes_under (es ++ entry key i ∷ []) q ≡ with_index (bytes_eq key q) i (indexes_under es q)
indexes_added [] key i q = none_before (bytes_eq key q) i
indexes_added (e ∷ es) key i q =
    ap (λ l. cond (bytes_eq e.key q) (e.index ∷ l) l) (indexes_added es key i q)
    ∙ some_before (bytes_eq e.key q) (bytes_eq key q) i e.index (indexes_under es q)
