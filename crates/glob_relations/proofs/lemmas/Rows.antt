-- Rows that are added, and where they lead.
use Rattle.std.proofs.Common.{◌≡◌, ℕ, zero, suc, ◌+◌, ◌<◌, ◌≤◌, ◌⊎◌, inl, inr, true≢false, List, [], ◌∷◌, ◌++◌, length, IsTrue, refl, ap, sym, subst, ◌∙◌, arith, length-append}
use Rattle.std.specs.Prelude.{◌↔◌, Some, slice_get}
use Rattle.std.proofs.lemmas.Bool.{cases_lt}
use Rattle.std.proofs.Math.Logic.{⊎_elim}
use Rattle.std.proofs.lemmas.List.{append_assoc}
use Rattle.std.proofs.lemmas.Option.{slice_get_within}
use Rattle.bit_sets.specs.Texts.{AllBytes}
use Rattle.byte_nfa.specs.Runs.{size}
use Rattle.byte_nfa.specs.Steps.{NfaValue, IsReached}
use Rattle.glob_relations.specs.declared.rows.SearchRow.{SearchRow}
use Rattle.glob_relations.specs.declared.rows.SearchRows.{SearchRows}
use Rattle.glob_relations.specs.declared.rows.Origin.{Origin}
use Rattle.glob_relations.specs.declared.search.Question.{Question}
use Rattle.glob_relations.specs.inner.Closed.{IsOpen}
use Rattle.glob_relations.specs.inner.Places.{first_place, ends_in}
use Rattle.glob_relations.specs.Shortest.{IsShortest}
use Rattle.glob_relations.specs.inner.Rows.{AcceptsIn, IsWantedBy, first_rule, WantsRow, WantsFrom, WantsNext, HasRow, HasOrigin, IsNext, IsDeep, CameBefore, IsAskedText, AreStates, IsFirstRow, GoesTo, GoesNowhere, CameFrom, AreRows, IsLedTo, AreDifferent, HasMoreRows, KeepsRows, AddsRow, IsFollowedBy, IsFollowed, AreDone}
use Rattle.glob_relations.proofs.lemmas.Closed.{open_iff, open_next, open_before}
use Rattle.glob_relations.proofs.lemmas.Passes.{wanted_iff}

module _ {X : Type 0} where
  some_is : (x y : X) → Some x ≡ Some y → x ≡ y
  some_is x y e = cc

  pub get_left : (xs ys : List X) (i : ℕ) (x : X) → slice_get xs i ≡ Some x → slice_get (xs ++ ys) i ≡ Some x
  get_left [] ys i x e = absurd cc
  get_left (z ∷ zs) ys zero x e = e
  get_left (z ∷ zs) ys (suc i) x e = get_left zs ys i x e

  pub get_last : (xs : List X) (x : X) → slice_get (xs ++ x ∷ []) (length xs) ≡ Some x
  get_last [] x = refl
  get_last (z ∷ zs) x = get_last zs x

  pub get_cases : (xs : List X) (y : X) (i : ℕ) (x : X) → slice_get (xs ++ y ∷ []) i ≡ Some x → (slice_get xs i ≡ Some x) ⊎ ((i ≡ length xs) × (x ≡ y))
  get_cases [] y zero x e = inr (refl, some_is x y (sym e))
  get_cases [] y (suc i) x e = absurd cc
  get_cases (z ∷ zs) y zero x e = inl e
  get_cases (z ∷ zs) y (suc i) x e = ⊎_elim {C = (slice_get zs i ≡ Some x) ⊎ ((suc i ≡ suc (length zs)) × (x ≡ y))} (λ h. inl h) (λ (is, same). inr (ap suc is, same)) (get_cases zs y i x e)

  pub get_some : (xs : List X) (i : ℕ) → i < length xs → (x : X) × (slice_get xs i ≡ Some x)
  get_some [] i lt = absurd (omega arith)
  get_some (z ∷ zs) zero lt = (z, refl)
  get_some (z ∷ zs) (suc i) lt = get_some zs i (omega arith)

  pub get_same : (xs : List X) (i : ℕ) (x y : X) → slice_get xs i ≡ Some x → slice_get xs i ≡ Some y → x ≡ y
  get_same xs i x y e f = some_is x y (sym e ∙ f)

-- a row with the same place and the same states
pub wants_same : (m : NfaValue) (n : Question) (r row : SearchRow) (y : List ℕ) → r.place ≡ row.place → r.states.items ≡ row.states.items → WantsRow m n row y → WantsRow m n r y
wants_same m n r row y place states (ends, wanted, clear) = (
  subst (λ p. IsTrue (ends_in (Some p) y)) (sym place) ends,
  subst (λ (l : List ℕ). IsWantedBy n.required (AcceptsIn m l y)) (sym states) wanted,
  subst (λ (l : List ℕ). IsOpen n.ignores.items first_rule (AcceptsIn m l) y) (sym states) clear,
)

-- what is wanted after a byte is wanted from the row that it leads to
pub wants_goes : (m : NfaValue) (n : Question) (row : SearchRow) (b : ℕ) (next : SearchRow) (y : List ℕ) → GoesTo m n row b next → WantsRow m n row (b ∷ y) ↔ WantsRow m n next y
wants_goes m n row b next y (place, steps, on) =
    let P : List ℕ → ℕ → Type 0 = AcceptsIn m row.states.items in
    let Q : List ℕ → ℕ → Type 0 = AcceptsIn m next.states.items in
    let wanted = wanted_iff n.required (P (b ∷ y)) (Q y) (steps y) in (
      λ (ends, w, clear). (subst (λ o. IsTrue (ends_in o y)) place ends, wanted.0 w, open_next n.ignores.items first_rule P Q b y steps clear),
      λ (ends, w, clear). (subst (λ o. IsTrue (ends_in o y)) (sym place) ends, wanted.1 w, open_before n.ignores.items first_rule P Q b y steps (λ is closed. on (is, closed)) clear),
    )

-- nothing is wanted after a byte that leads to no row
pub wants_past : (m : NfaValue) (n : Question) (row : SearchRow) (b : ℕ) (y : List ℕ) → GoesNowhere m n row b → WantsRow m n row (b ∷ y) → ⊥
wants_past m n row b y (inl none) (ends, w, clear) = true≢false (sym (subst (λ o. IsTrue (ends_in o y)) none ends))
wants_past m n row b y (inr (is, closed)) (ends, w, clear) = clear [] y (ap (λ (c : ℕ). c ∷ y) is) closed

-- what is wanted from the row in which paths begin is wanted
pub wants_begins : (m : NfaValue) (n : Question) (row : SearchRow) (y : List ℕ) → IsFirstRow m n.domain row → WantsRow m n row y ↔ WantsFrom m n y
wants_begins m n row y (place, accepts) =
    let P : List ℕ → ℕ → Type 0 = AcceptsIn m row.states.items in
    let Q : List ℕ → ℕ → Type 0 = IsReached m in
    let wanted = wanted_iff n.required (P y) (Q y) (accepts y) in (
      λ (ends, w, clear). (subst (λ p. IsTrue (ends_in (Some p) y)) place ends, wanted.0 w, open_iff n.ignores.items first_rule P Q y accepts clear),
      λ (ends, w, clear). (subst (λ p. IsTrue (ends_in (Some p) y)) (sym place) ends, wanted.1 w, open_iff n.ignores.items first_rule Q P y (λ z k. ((accepts z k).1, (accepts z k).0)) clear),
    )

module _ (old new : SearchRows) (row : SearchRow) (origin : Origin) where
  pub adds_kept : AddsRow old new row origin → KeepsRows old new
  adds_kept (inl (keys, origins, there)) = (
    λ i r at. subst (λ (ks : List SearchRow). slice_get ks i ≡ Some r) (sym keys) at,
    λ i o at. subst (λ (os : List Origin). slice_get os i ≡ Some o) (sym origins) at,
  )
  adds_kept (inr (keys, origins)) = (
    λ i r at. subst (λ (ks : List SearchRow). slice_get ks i ≡ Some r) (sym keys) (get_left old.seen.keys (row ∷ []) i r at),
    λ i o at. subst (λ (os : List Origin). slice_get os i ≡ Some o) (sym origins) (get_left old.origins.items (origin ∷ []) i o at),
  )

  -- each row but the first still came from one below the number
  pub adds_before : (number : ℕ) → AddsRow old new row origin → origin.row < number → CameBefore old number → CameBefore new number
  adds_before number (inl (keys, origins, there)) low before i o pos at = before i o pos (subst (λ (os : List Origin). slice_get os i ≡ Some o) origins at)
  adds_before number (inr (keys, origins)) low before i o pos at = ⊎_elim {C = o.row < number}
      (λ h. before i o pos h)
      (λ (e, same). subst (λ (q : Origin). q.row < number) (sym same) low)
      (get_cases old.origins.items origin i o (subst (λ (os : List Origin). slice_get os i ≡ Some o) origins at))

  -- the first row came from none
  pub first_before : AddsRow old new row origin → old.origins.items ≡ [] → CameBefore new 0
  first_before added nothing i o pos at = absurd (omega (arith, most added, slice_get_within new.origins.items i o at))
    where
      most : AddsRow old new row origin → length new.origins.items ≤ 1
      most (inl (keys, origins, there)) = rw (origins, nothing) (omega arith)
      most (inr (keys, origins)) = rw (origins, nothing) (omega arith)

  -- what is wanted from the row is wanted from some row that is next to its origin
  pub adds_wanted : (m : NfaValue) (n : Question) (y : List ℕ) → AddsRow old new row origin → length old.origins.items ≡ length old.seen.keys → CameBefore old (origin.row + 1) → WantsRow m n row y
      → WantsNext m n new origin.row y
  adds_wanted m n y (inl (keys, origins, there)) len before wants =
      let (i, r, at, place, states) = there in
      (i, r, subst (λ (ks : List SearchRow). slice_get ks i ≡ Some r) (sym keys) at, next i (slice_get_within old.seen.keys i r at), wants_same m n r row y place states wants)
    where
      next : (i : ℕ) → i < length old.seen.keys → IsNext new origin.row i
      next zero lt = inl refl
      next (suc i) lt =
          let (o, at) = get_some old.origins.items (suc i) (omega arith) in
          let low = before (suc i) o (omega arith) at in
          inr (o, subst (λ (os : List Origin). slice_get os (suc i) ≡ Some o) (sym origins) at, omega arith)
  adds_wanted m n y (inr (keys, origins)) len before wants = (
    length old.seen.keys,
    row,
    subst (λ (ks : List SearchRow). slice_get ks (length old.seen.keys) ≡ Some row) (sym keys) (get_last old.seen.keys row),
    inr (
      origin,
      subst (λ (i : ℕ). HasOrigin new i origin) len (subst (λ (os : List Origin). slice_get os (length old.origins.items) ≡ Some origin) (sym origins) (get_last old.origins.items origin)),
      omega arith,
    ),
    wants,
  )

  module _ (m : NfaValue) (n : Question) where
    came_kept : (i : ℕ) (r : SearchRow) (o : Origin) → KeepsRows old new → CameFrom m n old i r o → CameFrom m n new i r o
    came_kept i r o keeps (p, low, byte, has, goes) = (p, low, byte, keeps.0 o.row p has, goes)

    pub adds_sound : AddsRow old new row origin → AreStates (size m) row.states.items → CameFrom m n old (length old.seen.keys) row origin → CameBefore old (origin.row + 1) → AreRows m n old → AreRows m n new
    adds_sound (inl (keys, origins, there)) small from low is = record {
      some = subst (λ (ks : List SearchRow). 0 < length ks) (sym keys) is.some;
      len = ap length origins ∙ is.len ∙ sym (ap length keys);
      below = λ i r at. is.below i r (before i r at);
      begins = λ r at. is.begins r (before 0 r at);
      came = λ i r o pos at came. came_kept i r o keeps (is.came i r o pos (before i r at) (origin_before i o came));
      order = λ i j o p pos le at there. is.order i j o p pos le (origin_before i o at) (origin_before j p there);
    }
      where
        keeps : KeepsRows old new
        keeps = adds_kept (inl (keys, origins, there))

        before : (i : ℕ) (r : SearchRow) → HasRow new i r → HasRow old i r
        before i r at = subst (λ (ks : List SearchRow). slice_get ks i ≡ Some r) keys at

        origin_before : (i : ℕ) (o : Origin) → HasOrigin new i o → HasOrigin old i o
        origin_before i o at = subst (λ (os : List Origin). slice_get os i ≡ Some o) origins at
    adds_sound (inr (keys, origins)) small from low is = record {
      some = omega (arith, more);
      len = omega (arith, more, more_origins, is.len);
      below = λ i r at. ⊎_elim {C = AreStates (size m) r.states.items} (λ h. is.below i r h) (λ (e, same). subst (λ (q : SearchRow). AreStates (size m) q.states.items) (sym same) small) (before i r at);
      begins = λ r at. ⊎_elim {C = IsFirstRow m n.domain r} (λ h. is.begins r h) (λ (e, same). let some = is.some in absurd (omega arith)) (before 0 r at);
      came = λ i r o pos at came. ⊎_elim {C = CameFrom m n new i r o}
          (λ h. ⊎_elim {C = CameFrom m n new i r o}
          (λ g. came_kept i r o keeps (is.came i r o pos h g))
          (λ (e, same). let lt = slice_get_within old.seen.keys i r h in let len = is.len in absurd (omega arith))
          (came_before i o came))
          (λ (e, same). ⊎_elim {C = CameFrom m n new i r o}
          (λ g. let lt = slice_get_within old.origins.items i o g in let len = is.len in absurd (omega arith))
          (λ (e', same'). subst (λ (j : ℕ). CameFrom m n new j r o) (sym e) (subst (λ (q : SearchRow). CameFrom m n new (length old.seen.keys) q o) (sym same)
          (subst (λ (q : Origin). CameFrom m n new (length old.seen.keys) row q) (sym same') (came_kept (length old.seen.keys) row origin keeps from))))
          (came_before i o came))
          (before i r at);
      order = λ i j o p pos le at there. ⊎_elim {C = o.row ≤ p.row}
          (λ h. ⊎_elim {C = o.row ≤ p.row}
          (λ g. is.order i j o p pos le h g)
          (λ (e, same). let below = low i o pos h in let is' = ap (λ (q : Origin). q.row) same in omega arith)
          (came_before j p there))
          (λ (e, same). ⊎_elim {C = o.row ≤ p.row}
          (λ g. let lt = slice_get_within old.origins.items j p g in absurd (omega arith))
          (λ (e', same'). let is' = ap (λ (q : Origin). q.row) (same ∙ sym same') in omega arith)
          (came_before j p there))
          (came_before i o at);
    }
      where
        keeps : KeepsRows old new
        keeps = adds_kept (inr (keys, origins))

        more : length new.seen.keys ≡ length old.seen.keys + 1
        more = ap length keys ∙ length-append old.seen.keys (row ∷ [])

        more_origins : length new.origins.items ≡ length old.origins.items + 1
        more_origins = ap length origins ∙ length-append old.origins.items (origin ∷ [])

        before : (i : ℕ) (r : SearchRow) → HasRow new i r → HasRow old i r ⊎ ((i ≡ length old.seen.keys) × (r ≡ row))
        before i r at = get_cases old.seen.keys row i r (subst (λ (ks : List SearchRow). slice_get ks i ≡ Some r) keys at)

        came_before : (i : ℕ) (o : Origin) → slice_get new.origins.items i ≡ Some o → HasOrigin old i o ⊎ ((i ≡ length old.origins.items) × (o ≡ origin))
        came_before i o at = get_cases old.origins.items origin i o (subst (λ (os : List Origin). slice_get os i ≡ Some o) origins at)

    -- the first row
    pub first_sound : AddsRow old new row origin → old.seen.keys ≡ [] → old.origins.items ≡ [] → AreStates (size m) row.states.items → IsFirstRow m n.domain row → AreRows m n new
    first_sound (inl (keys, origins, there)) none nothing small begins =
        let (i, r, at, place, states) = there in
        absurd (no_row i r (subst (λ (ks : List SearchRow). slice_get ks i ≡ Some r) none at))
      where
        no_row : (i : ℕ) (r : SearchRow) → slice_get [] i ≡ Some r → ⊥
        no_row i r e = cc
    first_sound (inr (keys, origins)) none nothing small begins = record {
      some = rw one (omega arith);
      len = rw (one, one_origin) refl;
      below = λ i r at. subst (λ (q : SearchRow). AreStates (size m) q.states.items) (sym (is_row i r at)) small;
      begins = λ r at. subst (λ (q : SearchRow). IsFirstRow m n.domain q) (sym (is_row 0 r at)) begins;
      came = λ i r o pos at came. let lt = slice_get_within (row ∷ []) i r (subst (λ (ks : List SearchRow). slice_get ks i ≡ Some r) one at) in absurd (omega arith);
      order = λ i j o p pos le at there. let lt = slice_get_within (origin ∷ []) i o (subst (λ (os : List Origin). slice_get os i ≡ Some o) one_origin at) in absurd (omega arith);
    }
      where
        one : new.seen.keys ≡ row ∷ []
        one = keys ∙ ap (λ (ks : List SearchRow). ks ++ row ∷ []) none

        one_origin : new.origins.items ≡ origin ∷ []
        one_origin = origins ∙ ap (λ (os : List Origin). os ++ origin ∷ []) nothing

        is_row : (i : ℕ) (r : SearchRow) → HasRow new i r → r ≡ row
        is_row i r at = ⊎_elim {C = r ≡ row} (λ h. absurd (no_row i r h)) (λ (e, same). same) (get_cases [] row i r (subst (λ (ks : List SearchRow). slice_get ks i ≡ Some r) one at))
          where
            no_row : (i : ℕ) (r : SearchRow) → slice_get [] i ≡ Some r → ⊥
            no_row i r e = cc

-- a row of a number that was there
pub row_back : (old new : SearchRows) → KeepsRows old new → (i : ℕ) (r : SearchRow) → i < length old.seen.keys → HasRow new i r → HasRow old i r
row_back old new keeps i r lt at =
    let (q, was) = get_some old.seen.keys i lt in
    subst (λ (x : SearchRow). slice_get old.seen.keys i ≡ Some x) (get_same new.seen.keys i q r (keeps.0 i q was) at) was

module _ (m : NfaValue) (n : Question) where
  next_kept : (old new : SearchRows) (i j : ℕ) → KeepsRows old new → IsNext old i j → IsNext new i j
  next_kept old new i j keeps (inl first) = inl first
  next_kept old new i j keeps (inr (o, at, le)) = inr (o, keeps.1 j o at, le)

  wants_kept : (old new : SearchRows) (i : ℕ) (y : List ℕ) → KeepsRows old new → WantsNext m n old i y → WantsNext m n new i y
  wants_kept old new i y keeps (j, r, has, next, wants) = (j, r, keeps.0 j r has, next_kept old new i j keeps next, wants)

  pub followed_kept : (old new : SearchRows) (i b : ℕ) → KeepsRows old new → i < length old.seen.keys → IsFollowedBy m n old i b → IsFollowedBy m n new i b
  followed_kept old new i b keeps lt is row at y wants = wants_kept old new i y keeps (is row (row_back old new keeps i row lt at) y wants)

  pub done_kept : (old new : SearchRows) (next : ℕ) → KeepsRows old new → next ≤ length old.seen.keys → AreDone m n old next → AreDone m n new next
  done_kept old new next keeps le done i lt = (
    λ b byte. followed_kept old new i b keeps (omega arith) ((done i lt).0 b byte),
    λ row at. (done i lt).1 row (row_back old new keeps i row (omega arith) at),
  )

  -- one row more is done
  pub done_more : (old new : SearchRows) (next : ℕ) (row : SearchRow) → KeepsRows old new → next < length old.seen.keys → AreDone m n old next → IsFollowed m n new next → HasRow old next row → (WantsRow m n row [] → ⊥)
      → AreDone m n new (next + 1)
  done_more old new next row keeps lt done followed has none i below = ⊎_elim {C = IsFollowed m n new i × ((r : SearchRow) → HasRow new i r → WantsRow m n r [] → ⊥)}
      (λ low. done_kept old new next keeps (omega arith) done i low)
      (λ high. let is : next ≡ i = omega arith in subst (λ (x : ℕ). IsFollowed m n new x × ((r : SearchRow) → HasRow new x r → WantsRow m n r [] → ⊥)) is
      (followed, λ r at wants. none (subst (λ (q : SearchRow). WantsRow m n q []) (get_same old.seen.keys next r row (row_back old new keeps next r lt at) has) wants)))
      (cases_lt i next)

  -- nothing is wanted from rows that are all done
  pub none_wanted : (rows : SearchRows) (next : ℕ) → AreDone m n rows next → length rows.seen.keys ≤ next → (y : List ℕ) → AllBytes y → (i : ℕ) (row : SearchRow) → HasRow rows i row → WantsRow m n row y → ⊥
  none_wanted rows next done le [] bytes i row at wants =
      let lt = slice_get_within rows.seen.keys i row at in (done i (omega arith)).1 row at wants
  none_wanted rows next done le (b ∷ y) (byte, bytes) i row at wants =
      let lt = slice_get_within rows.seen.keys i row at in
      let (j, r, has, next', w) = (done i (omega arith)).0 b byte row at y wants in
      none_wanted rows next done le y bytes j r has w

  pub nothing_wanted : (rows : SearchRows) (next : ℕ) → AreRows m n rows → AreDone m n rows next → length rows.seen.keys ≤ next → (y : List ℕ) → IsAskedText m n y → ⊥
  nothing_wanted rows next is done le y (bytes, wants) =
      let (row, at) = get_some rows.seen.keys 0 is.some in
      none_wanted rows next done le y bytes 0 row at ((wants_begins m n row y (is.begins row at)).1 wants)

-- a row that is not the first is one deeper than that which it came from
pub origin_deep : (rows : SearchRows) (i d : ℕ) (origin : Origin) → 0 < i → HasOrigin rows i origin → IsDeep rows d i → (e : ℕ) × IsDeep rows e origin.row × (suc e ≡ d)
origin_deep rows i zero origin pos from deep = absurd (omega arith)
origin_deep rows i (suc d) origin pos from (pos', (o, at, deep)) =
    (d, subst (λ (q : Origin). IsDeep rows d q.row) (get_same rows.origins.items i o origin at from) deep, refl)

pub first_deep : (rows : SearchRows) (i d : ℕ) → i ≡ 0 → IsDeep rows d i → d ≡ 0
first_deep rows i zero first deep = refl
first_deep rows i (suc d) first (pos, deep) = absurd (omega arith)

-- Rows are in the order of their depths.
module _ (m : NfaValue) (n : Question) (rows : SearchRows) (is : AreRows m n rows) where
  deep_order : (d e i j : ℕ) → IsDeep rows d i → IsDeep rows e j → i ≤ j → d ≤ e
  deep_order zero e i j deep deep' le = omega arith
  deep_order (suc d) zero i j (pos, deep) deep' le = absurd (omega arith)
  deep_order (suc d) (suc e) i j (pos, (o, at, deep)) (pos', (p, at', deep')) le =
      let low = is.order i j o p pos le at at' in
      let less = deep_order d e o.row p.row deep deep' low in
      omega arith

  deep_below : (bound i : ℕ) → i < bound → i < length rows.seen.keys → (d : ℕ) × IsDeep rows d i
  deep_below zero i lt within = absurd (omega arith)
  deep_below (suc bound) zero lt within = (0, refl)
  deep_below (suc bound) (suc i) lt within =
      let len = is.len in
      let (row, at) = get_some rows.seen.keys (suc i) within in
      let (o, from) = get_some rows.origins.items (suc i) (omega arith) in
      let (p, low, byte, has, goes) = is.came (suc i) row o (omega arith) at from in
      let (d, deep) = deep_below bound o.row (omega arith) (omega arith) in
      (suc d, (omega arith, (o, from, deep)))

  -- each row has a depth
  pub depth_of : (i : ℕ) → i < length rows.seen.keys → (d : ℕ) × IsDeep rows d i
  depth_of i within = deep_below (i + 1) i (omega arith) within

  -- a row that is next to another is at most one deeper
  next_deep : (d i j : ℕ) → i < length rows.seen.keys → IsDeep rows d i → IsNext rows i j → (e : ℕ) × IsDeep rows e j × (e ≤ d + 1)
  next_deep d i j within deep (inl first) = (0, first, omega arith)
  next_deep d i zero within deep (inr (o, at, le)) = (0, refl, omega arith)
  next_deep d i (suc j) within deep (inr (o, at, le)) =
      let (e, below) = depth_of o.row (omega arith) in
      let less = deep_order e d o.row i below deep le in
      (suc e, (omega arith, (o, at, below)), omega arith)

  -- where the rows before one are done, a text that is wanted is no shorter than the one is deep
  wanted_long : (next d : ℕ) → AreDone m n rows next → IsDeep rows d next → (y : List ℕ) → AllBytes y → (i e : ℕ) (row : SearchRow) → HasRow rows i row → IsDeep rows e i → WantsRow m n row y → d ≤ e + length y
  wanted_long next d done deep [] bytes i e row at deep' wants = ⊎_elim {C = d ≤ e + 0}
      (λ low. absurd ((done i low).1 row at wants))
      (λ high. let le = deep_order d e next i deep deep' high in omega arith)
      (cases_lt i next)
  wanted_long next d done deep (b ∷ y) (byte, bytes) i e row at deep' wants = ⊎_elim {C = d ≤ e + length (b ∷ y)}
      (λ low.
      let (j, r, has, near, w) = (done i low).0 b byte row at y wants in
      let (f, deeper, le) = next_deep e i j (slice_get_within rows.seen.keys i row at) deep' near in
      let least = wanted_long next d done deep y bytes j f r has deeper w in
      omega arith)
      (λ high. let le = deep_order d e next i deep deep' high in omega arith)
      (cases_lt i next)

  -- a path to the row is a shortest one
  pub found_shortest : (next : ℕ) (row : SearchRow) (path : List ℕ) → AreDone m n rows next → HasRow rows next row → IsAskedText m n path → ((d : ℕ) → IsDeep rows d next → length path ≡ d)
      → IsShortest (IsAskedText m n) path
  found_shortest next row path done at wanted long = (
    wanted,
    λ y (bytes, wants).
        let (d, deep) = depth_of next (slice_get_within rows.seen.keys next row at) in
        let (first, begins) = get_some rows.seen.keys 0 is.some in
        let least = wanted_long next d done deep y bytes 0 0 first begins refl ((wants_begins m n first y (is.begins first begins)).1 wants) in
        let same = long d deep in
        omega arith,
  )

-- where rows came from
pub origin_low : (m : NfaValue) (n : Question) (rows : SearchRows) → AreRows m n rows → (i : ℕ) (origin : Origin) → 0 < i → slice_get rows.origins.items i ≡ Some origin → (origin.row < i) × (origin.byte < 256)
origin_low m n rows is i origin pos from =
    let lt = slice_get_within rows.origins.items i origin from in
    let len = is.len in
    let (row, at) = get_some rows.seen.keys i (omega arith) in
    let (p, low, byte, has, wants) = is.came i row origin pos at from in
    (low, byte)

all_push : (y : List ℕ) (b : ℕ) → AllBytes y → b < 256 → AllBytes (y ++ b ∷ [])
all_push [] b all lt = (lt, tt)
all_push (x ∷ xs) b (first, rest) lt = (first, all_push xs b rest lt)

-- some path leads to each row
led_to : (m : NfaValue) (n : Question) (rows : SearchRows) → AreRows m n rows → (bound i : ℕ) → i < bound → (row : SearchRow) → HasRow rows i row → IsLedTo m n.domain row
led_to m n rows is zero i lt row at = absurd (omega arith)
led_to m n rows is (suc bound) zero lt row at =
    let (place, accepts) = is.begins row at in
    ([], tt, λ z. ap (λ p. ends_in (Some p) z) place, accepts)
led_to m n rows is (suc bound) (suc i) lt row at =
    let within = slice_get_within rows.seen.keys (suc i) row at in
    let len = is.len in
    let (o, from) = get_some rows.origins.items (suc i) (omega arith) in
    let (p, low, byte, has, goes) = is.came (suc i) row o (omega arith) at from in
    let (y, bytes, ends, accepts) = led_to m n rows is bound o.row (omega arith) p has in (
      y ++ o.byte ∷ [],
      all_push y o.byte bytes byte,
      λ z. sym (ap (λ q. ends_in q z) goes.0) ∙ ends (o.byte ∷ z) ∙ sym (ap (ends_in (Some (first_place n.domain))) (append_assoc y (o.byte ∷ []) z)),
      λ z k. subst (λ (l : List ℕ). AcceptsIn m row.states.items z k ↔ IsReached m l k) (sym (append_assoc y (o.byte ∷ []) z))
          (λ h. (accepts (o.byte ∷ z) k).0 ((goes.1 z k).1 h), λ h. (goes.1 z k).0 ((accepts (o.byte ∷ z) k).1 h)),
    )

pub more_rows : (m : NfaValue) (n : Question) (rows : SearchRows) (limit : ℕ) → AreRows m n rows → limit < length rows.seen.keys → AreDifferent rows.seen.keys → HasMoreRows m n.domain limit
more_rows m n rows limit is more different = (
  rows.seen.keys,
  more,
  different,
  λ i row at. (is.below i row at, led_to m n rows is (i + 1) i (omega arith) row at),
)
