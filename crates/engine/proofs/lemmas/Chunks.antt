-- The state of a chunk accepts what the states of the chunk do.
use Rattle.std.proofs.Common.{◌≡◌, ℕ, zero, suc, ◌+◌, ◌-◌, ◌<◌, ◌≤◌, ◌⊎◌, inl, inr, List, [], ◌∷◌, ◌++◌, length, slice_index, arith, refl, ap, sym, subst, ◌∙◌, IsTrue}
use Rattle.std.specs.Prelude.{◌↔◌, Some, None, slice_get}
use Rattle.std.proofs.lemmas.Bool.{cases_lt}
use Rattle.std.proofs.Math.Logic.{⊎_elim}
use Rattle.bit_sets.specs.Bytes.{has_byte}
use Rattle.bit_sets.specs.Numbers.{AreBelow}
use Rattle.bit_sets.specs.declared.byte_set.ByteSet.{ByteSet}
use Rattle.byte_nfa.specs.Building.{Agrees, Pushes}
use Rattle.byte_nfa.specs.Runs.{size}
use Rattle.byte_nfa.specs.Steps.{State, bytes_state, union_state, loop_state, match_state, state, NfaValue, HasNumber, Accepts, ends, by_byte, by_skip, by_out, by_stay}
use Rattle.engine.specs.declared.sharing.KnownLists.{KnownLists}
use Rattle.engine.specs.inner.Chunks.{with_next, IsChunk, IsPushedFor}
use Rattle.engine.specs.inner.Known.{IsSharing}
use Rattle.engine.specs.inner.Lists.{AcceptsSome, AcceptsBefore, StandForFirst, IsStateFor}
use Rattle.engine.proofs.lemmas.Lists.{in_append, accepts_append, accepts_one, accepts_all, union_accepts, below_push, agrees_before, kept}

-- some state of the list from low on, below high, accepts
abbrev AcceptsBetween : List State → List ℕ → ℕ → ℕ → List ℕ → ℕ → Type 0
AcceptsBetween a l low high y k = (i : ℕ) × (low ≤ i) × (i < high) × Accepts a k (slice_index l i) y

-- the first step of a text

read_first : (a : List State) (k s t : ℕ) (w : ByteSet) (y : List ℕ) → state a s ≡ bytes_state w t → Accepts a k s y → (c : ℕ) × (z : List ℕ) × (y ≡ c ∷ z) × IsTrue (has_byte w c) × Accepts a k t z
read_first a k s t w y is (ends s' e) = absurd (let no = sym is ∙ e in cc)
read_first a k s t w y is (by_byte s' u c z v e has rest) =
    let eq : bytes_state v u ≡ bytes_state w t = sym e ∙ is in
    let set : v ≡ w = cc in
    let next : u ≡ t = cc in
    (c, z, refl, subst (λ x. IsTrue (has_byte x c)) set has, subst (λ x. Accepts a k x z) next rest)
read_first a k s t w y is (by_skip s' u z ts e m rest) = absurd (let no = sym is ∙ e in cc)
read_first a k s t w y is (by_out s' u z v ts e m rest) = absurd (let no = sym is ∙ e in cc)
read_first a k s t w y is (by_stay s' c z v ts e has rest) = absurd (let no = sym is ∙ e in cc)

end_first : (a : List State) (k j s : ℕ) (y : List ℕ) → state a s ≡ match_state j → Accepts a k s y → (y ≡ []) × (k ≡ j)
end_first a k j s y is (ends s' e) = let eq : match_state k ≡ match_state j = sym e ∙ is in (refl, cc)
end_first a k j s y is (by_byte s' u c z v e has rest) = absurd (let no = sym is ∙ e in cc)
end_first a k j s y is (by_skip s' u z ts e m rest) = absurd (let no = sym is ∙ e in cc)
end_first a k j s y is (by_out s' u z v ts e m rest) = absurd (let no = sym is ∙ e in cc)
end_first a k j s y is (by_stay s' c z v ts e has rest) = absurd (let no = sym is ∙ e in cc)

module _ (old a : List State) (l : List ℕ) (low high : ℕ) (nexts : List ℕ) (u n : ℕ) (k : ℕ) where
  -- bytes
  module _ (w : ByteSet) (t : ℕ) (chunk : IsChunk old l low high (bytes_state w t) nexts) (is : state a u ≡ bytes_state w n)
      (stands : (y : List ℕ) → Accepts a k n y ↔ AcceptsSome old nexts y k) where
    reads_chunk : (y : List ℕ) → Accepts a k u y ↔ AcceptsBetween old l low high y k
    reads_chunk y = (
      λ h. let (c, z, cut, has, rest) = read_first a k u n w y is h in
          let (m, at, later) = (stands z).0 rest in
          let (i, from, below, st) = chunk.comes m at in
          (i, from, below, subst (Accepts old k (slice_index l i)) (sym cut) (by_byte (slice_index l i) m c z w st has later)),
      λ (i, from, below, h). let (m, at, st) = chunk.goes i from below in
          let (c, z, cut, has, rest) = read_first old k (slice_index l i) m w y st h in
          subst (Accepts a k u) (sym cut) (by_byte u n c z w is has ((stands z).1 (m, at, rest))),
    )

  -- loops
  module _ (w : ByteSet) (us : List ℕ) (chunk : IsChunk old l low high (loop_state w us) nexts) (is : state a u ≡ loop_state w (n ∷ []))
      (stands : (y : List ℕ) → Accepts a k n y ↔ AcceptsSome old nexts y k) where
    loop_there : (s : ℕ) (y : List ℕ) → state a s ≡ loop_state w (n ∷ []) → Accepts a k s y → AcceptsBetween old l low high y k
    loop_there s y e0 (ends s' e) = absurd (let no = sym e0 ∙ e in cc)
    loop_there s y e0 (by_byte s' t c z v e has rest) = absurd (let no = sym e0 ∙ e in cc)
    loop_there s y e0 (by_skip s' t z ts e m rest) = absurd (let no = sym e0 ∙ e in cc)
    loop_there s y e0 (by_out s' t z v ts e m rest) =
        let eq : loop_state v ts ≡ loop_state w (n ∷ []) = sym e ∙ e0 in
        let exits : ts ≡ n ∷ [] = cc in
        let out : Accepts a k n z = (accepts_one a z k n).0 (t, subst (HasNumber t) exits m, rest) in
        let (j, at, later) = (stands z).0 out in
        let (i, from, below, st) = chunk.comes j at in
        (i, from, below, by_out (slice_index l i) j z w (j ∷ []) st (inl refl) later)
    loop_there s y e0 (by_stay s' c z v ts e has rest) =
        let eq : loop_state v ts ≡ loop_state w (n ∷ []) = sym e ∙ e0 in
        let set : v ≡ w = cc in
        let (i, from, below, later) = loop_there s z e0 rest in
        let (j, at, st) = chunk.goes i from below in
        (i, from, below, by_stay (slice_index l i) c z w (j ∷ []) st (subst (λ x. IsTrue (has_byte x c)) set has) later)

    loop_back : (s j : ℕ) (y : List ℕ) → HasNumber j nexts → state old s ≡ loop_state w (j ∷ []) → Accepts old k s y → Accepts a k u y
    loop_back s j y at e0 (ends s' e) = absurd (let no = sym e0 ∙ e in cc)
    loop_back s j y at e0 (by_byte s' t c z v e has rest) = absurd (let no = sym e0 ∙ e in cc)
    loop_back s j y at e0 (by_skip s' t z ts e m rest) = absurd (let no = sym e0 ∙ e in cc)
    loop_back s j y at e0 (by_out s' t z v ts e m rest) =
        let eq : loop_state v ts ≡ loop_state w (j ∷ []) = sym e ∙ e0 in
        let exits : ts ≡ j ∷ [] = cc in
        let out : Accepts old k j z = (accepts_one old z k j).0 (t, subst (HasNumber t) exits m, rest) in
        by_out u n z w (n ∷ []) is (inl refl) ((stands z).1 (j, at, out))
    loop_back s j y at e0 (by_stay s' c z v ts e has rest) =
        let eq : loop_state v ts ≡ loop_state w (j ∷ []) = sym e ∙ e0 in
        let set : v ≡ w = cc in
        by_stay u c z w (n ∷ []) is (subst (λ x. IsTrue (has_byte x c)) set has) (loop_back s j z at e0 rest)

    stays_chunk : (y : List ℕ) → Accepts a k u y ↔ AcceptsBetween old l low high y k
    stays_chunk y = (loop_there u y is, λ (i, from, below, h). let (j, at, st) = chunk.goes i from below in loop_back (slice_index l i) j y at st h)

  -- ends
  ends_chunk : (j : ℕ) → low < high → IsChunk old l low high (match_state j) nexts → state a u ≡ match_state j → (y : List ℕ) → Accepts a k u y ↔ AcceptsBetween old l low high y k
  ends_chunk j some chunk is y = (
    λ h. let (nil, same) = end_first a k j u y is h in
        let (m, at, st) = chunk.goes low (omega arith) some in
        (low, omega arith, some, subst (Accepts old k (slice_index l low)) (sym nil) (ends (slice_index l low) (st ∙ ap match_state (sym same)))),
    λ (i, from, below, h). let (m, at, st) = chunk.goes i from below in
        let (nil, same) = end_first old k j (slice_index l i) y st h in
        subst (Accepts a k u) (sym nil) (ends u (is ∙ ap match_state (sym same))),
  )

-- the first states of a list, and those of a chunk behind them
between_after : (a : List State) (l : List ℕ) (low high : ℕ) → low ≤ high → (y : List ℕ) (k : ℕ) → AcceptsBefore a l high y k ↔ (AcceptsBefore a l low y k ⊎ AcceptsBetween a l low high y k)
between_after a l low high le y k = (
  λ (i, lt, h). ⊎_elim {C = AcceptsBefore a l low y k ⊎ AcceptsBetween a l low high y k} (λ before. inl (i, before, h)) (λ after. inr (i, after, lt, h)) (cases_lt i low),
  λ some. ⊎_elim {C = AcceptsBefore a l high y k} (λ (i, lt, h). (i, omega arith, h)) (λ (i, from, lt, h). (i, lt, h)) some,
)

-- what is true when a chunk's state was pushed
pub record AreChunked (old new : NfaValue) (lists : KnownLists) (l : List ℕ) (high : ℕ) (parts : List ℕ) : Type 0 where
  pub sharing : IsSharing old new lists
  pub below : AreBelow (size new) parts
  pub stand : StandForFirst old new l high parts

pub sharing_kept : (old new more : NfaValue) (lists : KnownLists) (u : ℕ) (st : State) → Pushes new more u st → IsSharing old new lists → IsSharing old more lists
sharing_kept old new more lists u st pushes sharing = record {
  known = λ l v is. kept old new more l v pushes.keeps (sharing.known l v is);
  starts = pushes.starts ∙ sharing.starts;
  index_count = pushes.index_count ∙ sharing.index_count;
}

module _ (old new more : NfaValue) (lists : KnownLists) (l : List ℕ) (low high : ℕ) (parts nexts : List ℕ) (u : ℕ) (some : low < high) where
  -- a state that stands for the chunk beside the parts that stand for what is before it
  with_part : (st : State) → Pushes new more u st
      → ((a : List State) → Agrees a more.states 0 (size more) → (y : List ℕ) (k : ℕ) → Accepts a k u y ↔ AcceptsBetween old.states l low high y k)
      → AreChunked old new lists l low parts → AreChunked old more lists l high (parts ++ u ∷ [])
  with_part st pushes part before = record {
    sharing = sharing_kept old new more lists u st pushes before.sharing;
    below = below_push (size new) (size more) u parts before.below (omega (arith, pushes.len)) (omega (arith, pushes.len, pushes.at));
    stand = λ a agrees y k.
        let whole = accepts_append a y k parts (u ∷ []) in
        let cut = between_after old.states l low high (omega arith) y k in
        let one = accepts_one a y k u in
        let first = before.stand a (agrees_before a new more pushes.keeps agrees) y k in
        let this = part a agrees y k in (
          λ h. cut.1 (⊎_elim {C = AcceptsBefore old.states l low y k ⊎ AcceptsBetween old.states l low high y k} (λ x. inl (first.0 x)) (λ x. inr (this.0 (one.0 x))) (whole.0 h)),
          λ h. whole.1 (⊎_elim {C = AcceptsSome a parts y k ⊎ AcceptsSome a (u ∷ []) y k} (λ x. inl (first.1 x)) (λ x. inr (one.1 (this.1 x))) (cut.0 h)),
        );
  }

  pub chunked : (st : State) → IsChunk old.states l low high st nexts → IsPushedFor new more lists st nexts u
      → AreChunked old new lists l low parts → AreChunked old more lists l high (parts ++ u ∷ [])
  chunked (bytes_state w t) chunk (n, known, pushes) before =
      with_part (bytes_state w n) pushes
      (λ a agrees y k. reads_chunk old.states a l low high nexts u n k w t chunk (pushes.adds a 0 (omega arith) agrees)
      (λ z. (before.sharing.known nexts n known).stands a (agrees_before a new more pushes.keeps agrees) z k) y) before
  chunked (union_state us) chunk none before = absurd none
  chunked (loop_state w us) chunk (n, known, pushes) before =
      with_part (loop_state w (n ∷ [])) pushes
      (λ a agrees y k. stays_chunk old.states a l low high nexts u n k w us chunk (pushes.adds a 0 (omega arith) agrees)
      (λ z. (before.sharing.known nexts n known).stands a (agrees_before a new more pushes.keeps agrees) z k) y) before
  chunked (match_state j) chunk pushes before =
      with_part (match_state j) pushes (λ a agrees y k. ends_chunk old.states a l low high nexts u 0 k j some chunk (pushes.adds a 0 (omega arith) agrees) y) before

-- one state more is in a chunk
pub chunk_more : (a : List State) (l : List ℕ) (low high n : ℕ) (st : State) (nexts more : List ℕ) → low ≤ high → IsChunk a l low high st nexts
    → state a (slice_index l high) ≡ with_next st n → HasNumber n more → ((m : ℕ) → HasNumber m nexts → HasNumber m more) → ((m : ℕ) → HasNumber m more → HasNumber m nexts ⊎ (m ≡ n))
    → IsChunk a l low (high + 1) st more
chunk_more a l low high n st nexts more order chunk is this keeps adds = record {
  goes = λ i from below. ⊎_elim {C = (m : ℕ) × HasNumber m more × (state a (slice_index l i) ≡ with_next st m)}
      (λ before. let (m, at, goes) = chunk.goes i from before in (m, keeps m at, goes))
      (λ after. let same : high ≡ i = omega arith in (n, this, subst (λ x. state a (slice_index l x) ≡ with_next st n) same is))
      (cases_lt i high);
  comes = λ m at. ⊎_elim {C = (i : ℕ) × (low ≤ i) × (i < high + 1) × (state a (slice_index l i) ≡ with_next st m)}
      (λ old. let (i, from, below, goes) = chunk.comes m old in (i, from, omega arith, goes))
      (λ new. (high, order, omega arith, subst (λ x. state a (slice_index l high) ≡ with_next st x) (sym new) is))
      (adds m at);
}

pub chunk_pushed : (a : List State) (l : List ℕ) (low high n : ℕ) (st : State) (nexts more : List ℕ) → low ≤ high → IsChunk a l low high st nexts
    → state a (slice_index l high) ≡ with_next st n → more ≡ nexts ++ n ∷ [] → IsChunk a l low (high + 1) st more
chunk_pushed a l low high n st nexts more order chunk is are =
    chunk_more a l low high n st nexts more order chunk is (subst (HasNumber n) (sym are) ((in_append n nexts (n ∷ [])).1 (inr (inl refl))))
    (λ m at. subst (HasNumber m) (sym are) ((in_append m nexts (n ∷ [])).1 (inl at)))
    (λ m at. ⊎_elim {C = HasNumber m nexts ⊎ (m ≡ n)} (λ old. inl old) (λ new. inr (one m new)) ((in_append m nexts (n ∷ [])).0 (subst (HasNumber m) are at)))
  where
    one : (m : ℕ) → HasNumber m (n ∷ []) → m ≡ n
    one m (inl e) = e
    one m (inr none) = absurd none

-- the last of a list is in it
pub last_in : (xs : List ℕ) (n : ℕ) → slice_get xs (length xs - 1) ≡ Some n → HasNumber n xs
last_in xs n is = found xs (length xs - 1) n is
  where
    found : (xs : List ℕ) (i n : ℕ) → slice_get xs i ≡ Some n → HasNumber n xs
    found [] i n e = absurd (let no : None ≡ Some n = e in cc)
    found (x ∷ xs) zero n e = inl (let eq : Some x ≡ Some n = e in cc)
    found (x ∷ xs) (suc i) n e = inr (found xs i n e)

pub chunk_again : (a : List State) (l : List ℕ) (low high n : ℕ) (st : State) (nexts : List ℕ) → low ≤ high → IsChunk a l low high st nexts
    → state a (slice_index l high) ≡ with_next st n → HasNumber n nexts → IsChunk a l low (high + 1) st nexts
chunk_again a l low high n st nexts order chunk is at = chunk_more a l low high n st nexts nexts order chunk is at (λ m h. h) (λ m h. inl h)

-- all chunks were, and there is one
pub whole_one : (old new : NfaValue) (lists : KnownLists) (l parts : List ℕ) (n u : ℕ) → n ≡ length l → parts ≡ u ∷ [] → AreChunked old new lists l n parts → IsStateFor old new l u
whole_one old new lists l parts n u len are chunked = record {
  below = (subst (AreBelow (size new)) are chunked.below) 0 (omega arith);
  stands = λ a agrees y k.
      let one = accepts_one a y k u in
      let all = accepts_all old.states y k l n len in
      let stand : AcceptsSome a (u ∷ []) y k ↔ AcceptsBefore old.states l n y k = subst (λ p. AcceptsSome a p y k ↔ AcceptsBefore old.states l n y k) are (chunked.stand a agrees y k) in
      (λ h. all.0 (stand.0 (one.1 h)), λ h. one.0 (stand.1 (all.1 h)));
}

-- there are several, and a union of them was pushed
pub whole_union : (old new more : NfaValue) (lists : KnownLists) (l parts : List ℕ) (n u : ℕ) → n ≡ length l → AreChunked old new lists l n parts → Pushes new more u (union_state parts) → IsStateFor old more l u
whole_union old new more lists l parts n u len chunked pushes = record {
  below = omega (arith, pushes.len, pushes.at);
  stands = λ a agrees y k.
      let union = union_accepts a y k u parts (pushes.adds a 0 (omega arith) agrees) in
      let all = accepts_all old.states y k l n len in
      let stand = chunked.stand a (agrees_before a new more pushes.keeps agrees) y k in
      (λ h. all.0 (stand.0 (union.0 h)), λ h. union.1 (stand.1 (all.1 h)));
}

pub one_item : (xs : List ℕ) → length xs ≡ 1 → xs ≡ slice_index xs 0 ∷ []
one_item [] one = absurd (omega (arith, one))
one_item (x ∷ []) one = refl
one_item (x ∷ y ∷ ys) one = absurd (omega (arith, one))
