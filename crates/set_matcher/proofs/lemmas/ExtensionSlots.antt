-- The slots of extensions in a map, once one more is added.
use Rattle.std.proofs.Common.{◌≡◌, ℕ, Bool, true, false, List, [], ◌∷◌, ◌++◌, Some, None, Vec, Ordering, sym, ap, subst, ◌∙◌, ⊎_elim}
use Rattle.std.specs.Cmp.Lexicographic.{bytes_decides, nat_list_eq_equiv, slice_cmp}
use Rattle.std.specs.BTreeMap.{BTreeMap, Updates}
use Rattle.std.specs.Map.{lookup, IsKeyTest, AreApart, KeepsOthers}
use Rattle.std.specs.Ordering.{is_eq, nat_cmp}
use Rattle.std.specs.Str.{bytes_eq}
use Rattle.std.proofs.lemmas.Bool.{cases_Bool, cond-false}
use Rattle.std.proofs.lemmas.Map.Text.{is_eq-slice_cmp}
use Rattle.glob_path.specs.Entries.{Entry, entry}
use Rattle.glob_path.proofs.lemmas.Entries.{indexes_added}
use Rattle.set_matcher.specs.inner.Automata.{first, slot_of}
use Rattle.set_matcher.specs.inner.ExtensionSlots.{slot_in, HasSlots}
use Rattle.set_matcher.proofs.lemmas.Tables.{first_of_key}

abbrev key_cmp : {X : Type 0} → Vec ℕ X → Vec ℕ X → Ordering
key_cmp x y = slice_cmp nat_cmp x.items y.items

other_keys : {K X : Type 0} (eq : K → K → Bool) (test : K → Bool) (old new : List (K × X)) → KeepsOthers eq test old new →
    (other : K → Bool) → IsKeyTest eq other → AreApart test other → lookup other new ≡ lookup other old
unfolding KeepsOthers
other_keys eq test old new h = h

same_bytes : (xs ys : List ℕ) → is_eq (slice_cmp nat_cmp xs ys) ≡ true → xs ≡ ys
same_bytes xs ys t = (bytes_decides xs ys).0 (sym (is_eq-slice_cmp xs ys) ∙ t)

apart : (key q ks : List ℕ) → bytes_eq key q ≡ false → is_eq (slice_cmp nat_cmp key ks) ≡ true → is_eq (slice_cmp nat_cmp q ks) ≡ false
apart key q ks n t =
    is_eq-slice_cmp q ks ∙ ap (bytes_eq q) (sym (same_bytes key ks t)) ∙ nat_list_eq_equiv.symm q key ∙ n

-- an extension that had no slot has one
pub slots_added : {X : Type 0} (m n : BTreeMap (Vec ℕ X) ℕ) (key : Vec ℕ X) (slot : ℕ) (es fs : List Entry) → Updates key_cmp m n key (Some slot) →
    HasSlots m es → slot_of es key.items ≡ None → fs ≡ es ++ entry key.items slot ∷ [] → HasSlots n fs
slots_added m n key slot es fs h has none e = record {
  same = λ q.
      ⊎_elim
      (λ y. subst (λ l. slot_in n l ≡ slot_of fs l) ((bytes_decides key.items q).0 y)
      (h.1 ∙ sym (ap (λ l. slot_of l key.items) e ∙ first_of_key es key.items slot none)))
      (λ f. other_keys _ _ _ _ h.3 _ (λ x y t. ap (λ l. is_eq (slice_cmp nat_cmp l y.items)) (same_bytes q x.items t)) (λ x t. apart key.items q x.items f t)
      ∙ has.same q
      ∙ sym (ap (λ l. slot_of l q) e ∙ ap first (indexes_added es key.items slot q ∙ cond-false (bytes_eq key.items q) _ _ f)))
      (cases_Bool (bytes_eq key.items q));
}
