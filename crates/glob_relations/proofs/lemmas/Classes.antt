-- Bytes that are read alike.
use Rattle.std.proofs.Common.{◌≡◌, ℕ, zero, suc, ◌+◌, ◌<◌, ◌≤◌, ◌⊎◌, inl, inr, Bool, true, false, true≢false, List, [], ◌∷◌, ◌++◌, refl, ap, sym, subst, ◌∙◌, arith}
use Rattle.std.specs.Prelude.{◌↔◌, Contains}
use Rattle.std.proofs.lemmas.Bool.{cases_lt}
use Rattle.std.proofs.lemmas.List.Elements.{Contains-append_left, Contains-append_right, Contains-push}
use Rattle.std.proofs.Math.Logic.{⊎_elim}
use Rattle.bit_sets.specs.Bytes.{has_byte}
use Rattle.bit_sets.specs.declared.byte_set.ByteSet.{ByteSet}
use Rattle.byte_nfa.specs.Steps.{NfaValue}
use Rattle.byte_nfa.proofs.lemmas.Equivalent.{accepts_equivalent}
use Rattle.glob_relations.specs.declared.rows.SearchRow.{SearchRow}
use Rattle.glob_relations.specs.declared.search.Question.{Question}
use Rattle.glob_relations.specs.inner.Places.{after_kind, ends_in}
use Rattle.glob_relations.specs.inner.Rows.{AcceptsIn, AreAlike, AreBoundaries, AreRepresentatives, BeginsClass, first_rule, WantsRow}
use Rattle.glob_relations.proofs.lemmas.Closed.{open_alike, slash_is}
use Rattle.glob_relations.proofs.lemmas.Passes.{wanted_iff}

-- each byte is like one that begins a class
represented : (m : NfaValue) (set : ByteSet) → AreBoundaries m set → (c : ℕ) → c < 256 → (r : ℕ) × (r ≤ c) × BeginsClass set r × AreAlike m r c
represented m set boundaries zero lt = (0, omega arith, inl refl, (λ s. refl, refl))
represented m set boundaries (suc c) lt = by (represented m set boundaries c (omega arith)) (has_byte set c) refl
  where
    one : c + 1 ≡ suc c
    one = omega arith

    by : ((r : ℕ) × (r ≤ c) × BeginsClass set r × AreAlike m r c) → (z : Bool) → has_byte set c ≡ z → (r : ℕ) × (r ≤ suc c) × BeginsClass set r × AreAlike m r (suc c)
    by before true is = (suc c, omega arith, inr (c, sym one, is), (λ s. refl, refl))
    by (r, le, begins, alike) false off =
        let next : AreAlike m c (suc c) = subst (AreAlike m c) one (boundaries c (omega arith) (λ at. true≢false (sym at ∙ off))) in
        (r, omega arith, begins, (λ s. alike.0 s ∙ next.0 s, alike.1 ∙ next.1))

accepts_alike : (m : NfaValue) (list : List ℕ) (b c : ℕ) → AreAlike m b c → (y : List ℕ) (k : ℕ) → AcceptsIn m list (b ∷ y) k → AcceptsIn m list (c ∷ y) k
accepts_alike m list b c alike y k (t, at, h) = (t, at, accepts_equivalent m.states k b c y alike.0 t (b ∷ y) h refl)

alike_sym : (m : NfaValue) (b c : ℕ) → AreAlike m b c → AreAlike m c b
alike_sym m b c (same, kind) = (λ s. sym (same s), sym kind)

-- what is wanted after a byte is wanted after one that is read alike
pub wants_alike : (m : NfaValue) (n : Question) (row : SearchRow) (b c : ℕ) (y : List ℕ) → AreAlike m b c → WantsRow m n row (c ∷ y) → WantsRow m n row (b ∷ y)
wants_alike m n row b c y alike (ends, wanted, clear) =
    let P : List ℕ → ℕ → Type 0 = AcceptsIn m row.states.items in
    let same : (z : List ℕ) (k : ℕ) → P (b ∷ z) k ↔ P (c ∷ z) k = λ z k. (accepts_alike m row.states.items b c alike z k, accepts_alike m row.states.items c b (alike_sym m b c alike) z k) in (
      ap (λ k. ends_in (after_kind row.place k) y) alike.1 ∙ ends,
      (wanted_iff n.required (P (c ∷ y)) (P (b ∷ y)) (λ k. ((same y k).1, (same y k).0))).0 wanted,
      open_alike n.ignores.items first_rule P b c y same (slash_is b c alike.1) clear,
    )

-- bytes that are alike one after another
pub alike_next : (m : NfaValue) (set : ByteSet) → AreBoundaries m set → (b c : ℕ) → b + 1 < 256 → has_byte set b ≡ false → AreAlike m b c → AreAlike m (b + 1) c
alike_next m set are b c lt off alike =
    let next = are b lt (λ at. true≢false (sym at ∙ off)) in
    (λ s. sym (next.0 s) ∙ alike.0 s, sym next.1 ∙ alike.1)

-- each byte below i that begins a class is like some byte of two lists
abbrev pub AreFound : NfaValue → ByteSet → List ℕ → List ℕ → ℕ → Type 0
AreFound m set first rest i = (c : ℕ) → c < i → BeginsClass set c → (b : ℕ) × (Contains first b ⊎ Contains rest b) × AreAlike m b c

module _ (m : NfaValue) (set : ByteSet) (first rest : List ℕ) (i : ℕ) (found : AreFound m set first rest i) where
  found_here : (b : ℕ) (xs ys : List ℕ) → Contains xs b ⊎ Contains ys b → ((c : ℕ) → Contains first c → Contains xs c) → ((c : ℕ) → Contains rest c → Contains ys c) → AreAlike m b i → AreFound m set xs ys (i + 1)
  found_here b xs ys here left right alike c lt begins = ⊎_elim {C = (d : ℕ) × (Contains xs d ⊎ Contains ys d) × AreAlike m d c}
      (λ low. let (d, at, like) = found c low begins in (d, ⊎_elim {C = Contains xs d ⊎ Contains ys d} (λ h. inl (left d h)) (λ h. inr (right d h)) at, like))
      (λ high. let is : i ≡ c = omega arith in (b, here, subst (AreAlike m b) is alike))
      (cases_lt c i)

  pub found_first : (b : ℕ) → AreAlike m b i → AreFound m set (first ++ b ∷ []) rest (i + 1)
  found_first b alike = found_here b (first ++ b ∷ []) rest (inl (Contains-push first b)) (λ c h. Contains-append_left first (b ∷ []) c h) (λ c h. h) alike

  pub found_rest : (b : ℕ) → AreAlike m b i → AreFound m set first (rest ++ b ∷ []) (i + 1)
  found_rest b alike = found_here b first (rest ++ b ∷ []) (inr (Contains-push rest b)) (λ c h. h) (λ c h. Contains-append_left rest (b ∷ []) c h) alike

  pub found_past : (BeginsClass set i → ⊥) → AreFound m set first rest (i + 1)
  found_past none c lt begins = ⊎_elim {C = (d : ℕ) × (Contains first d ⊎ Contains rest d) × AreAlike m d c}
      (λ low. found c low begins)
      (λ high. let is : c ≡ i = omega arith in absurd (none (subst (BeginsClass set) is begins)))
      (cases_lt c i)

  pub found_all : 255 < i → AreBoundaries m set → AreRepresentatives m (first ++ rest)
  found_all all are c lt =
      let (r, le, begins, alike) = represented m set are c lt in
      let (b, at, like) = found r (omega arith) begins in (
        b,
        ⊎_elim {C = Contains (first ++ rest) b} (λ h. Contains-append_left first rest b h) (λ h. Contains-append_right first rest b h) at,
        (λ s. like.0 s ∙ alike.0 s, like.1 ∙ alike.1),
      )
