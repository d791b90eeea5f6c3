-- Lists that a state was made for.
use Rattle.std.proofs.Common.{◌≡◌, ℕ, ◌⊎◌, inl, inr, List, sym, subst, ◌∙◌, nat_eq}
use Rattle.std.specs.Prelude.{Some}
use Rattle.std.specs.Cmp.Lexicographic.{pointwise, bytes_decides, nat_list_eq_equiv as lists_are}
use Rattle.std.specs.HashMap.{UpdatesBy}
use Rattle.std.specs.Map.{KeepsOthers}
use Rattle.std.proofs.lemmas.Bool.{cases_Bool}
use Rattle.std.proofs.Math.Logic.{⊎_elim}
use Rattle.byte_nfa.specs.Steps.{NfaValue}
use Rattle.engine.specs.declared.sharing.KnownLists.{KnownLists}
use Rattle.engine.specs.inner.Known.{IsKnown, IsSharing}
use Rattle.engine.specs.inner.Lists.{AcceptAlike, IsStateFor}
use Rattle.engine.proofs.lemmas.Lists.{state_of_alike}

-- a list was put among the others
pub known_put : (lists more : KnownLists) (list : List ℕ) (state : ℕ) → more.singles ≡ lists.singles
    → UpdatesBy (λ x y. pointwise nat_eq x.items y.items) (λ k. pointwise nat_eq list k.items) lists.others more.others (Some state)
    → (l : List ℕ) (u : ℕ) → IsKnown more l u → IsKnown lists l u ⊎ ((list ≡ l) × (state ≡ u))
unfolding IsKnown KeepsOthers
known_put lists more list state singles puts l u (inl (s, is, at)) = inl (inl (s, is, rw singles at at))
known_put lists more list state singles puts l u (inr found) = elim (cases_Bool (pointwise nat_eq list l)) [
  | inl same ↦ let this : list ≡ l = (bytes_decides list l).0 same in
      inr (this, let at : Some state ≡ Some u = sym puts.1 ∙ rw (← this) at found in cc)
  | inr apart ↦ let kept = puts.3 (λ k. pointwise nat_eq l k.items) (λ x y. lists_are.congr l x.items y.items)
      (λ k same. lists_are.symm l k.items ∙ sym (lists_are.congr list k.items l same) ∙ apart) in
      inl (inr (sym kept ∙ found))
]

-- a state was made for one list more
pub sharing_more : (old new : NfaValue) (lists more : KnownLists) (list in_order : List ℕ) (state : ℕ) → IsSharing old new lists → AcceptAlike old list in_order
    → IsStateFor old new in_order state
    → ((l : List ℕ) (u : ℕ) → IsKnown more l u → IsKnown lists l u ⊎ ((list ≡ l) × (state ≡ u))) → IsSharing old new more
sharing_more old new lists more list in_order state sharing alike made adds = record {
  known = λ l u is. ⊎_elim {C = IsStateFor old new l u} (λ before. sharing.known l u before) (λ (same, number). subst (IsStateFor old new l) number (subst (λ x. IsStateFor old new x state) same this)) (adds l u is);
  starts = sharing.starts;
  index_count = sharing.index_count;
}
  where
    this : IsStateFor old new list state
    this = state_of_alike old new list in_order state alike made
