-- Lists of indexes, one after another in a list of numbers.
use Rattle.std.proofs.Common.{◌≡◌, ℕ, suc, ◌+◌, ◌-◌, ◌<◌, List, [], ◌∷◌, ◌++◌, length, slice_index, take, drop, IsTrue, refl, ap, sym, ◌∙◌, subst, arith, length-append}
use Rattle.std.specs.Prelude.{◌↔◌}
use Rattle.std.proofs.lemmas.List.{get_or_append_left, take-append-le, length-drop, drop-append-le, take_all}
use Rattle.std.proofs.Math.Seq.{get_or-append_seam}
use Rattle.bit_sets.specs.Numbers.{has_number}
use Rattle.lazy_dfa.specs.inner.Lists.{list_at, IsListOf, KeepsLists}

-- lists stay where numbers are appended

pub keeps_lists : (old more : List ℕ) → KeepsLists old (old ++ more)
keeps_lists old more = (
  omega (arith, length-append old more),
  λ n place list.
      let room = list.room in
      let len = length-append old more in
      let count : slice_index (old ++ more) place ≡ slice_index old place = get_or_append_left old more 0 place (omega arith) in
      let dropped = length-drop (place + 1) old in
      let same : list_at (old ++ more) place ≡ list_at old place =
      ap (λ c. take c (drop (place + 1) (old ++ more))) count ∙ ap (take (slice_index old place)) (drop-append-le (place + 1) old more (omega arith))
      ∙ take-append-le (slice_index old place) (drop (place + 1) old) more (omega arith) in (
        record {
          room = rw count (omega arith);
          below = subst (λ l. (x : ℕ) → x < length l → slice_index l x < n) (sym same) list.below;
        },
        same,
        count,
      ),
)

pub keeps_then : (a b c : List ℕ) → KeepsLists a b → KeepsLists b c → KeepsLists a c
keeps_then a b c f g = (
  let h = f.0 in let k = g.0 in omega arith,
  λ n place list.
      let (l, e, s) = f.1 n place list in
      let (l', e', s') = g.1 n place l in
      (l', e' ∙ e, s' ∙ s),
)

pub list_kept : (old new : List ℕ) (n place : ℕ) (P : ℕ → Type 0) → KeepsLists old new → IsListOf old n place P → IsListOf new n place P
list_kept old new n place P keeps is =
    let (list, same, count) = keeps.1 n place is.list in
    record { list = list; has = λ k. subst (λ l. IsTrue (has_number k l) ↔ ((k < n) × P k)) (sym same) (is.has k) }

-- a list that was appended

pub list_last : (numbers list : List ℕ) (n : ℕ) (P : ℕ → Type 0) → ((x : ℕ) → x < length list → slice_index list x < n)
    → ((k : ℕ) → IsTrue (has_number k list) ↔ ((k < n) × P k)) → IsListOf (numbers ++ length list ∷ list) n (length numbers) P
list_last numbers list n P below has =
    let count : slice_index (numbers ++ length list ∷ list) (length numbers) ≡ length list = get_or-append_seam numbers (length list) list 0 in
    let len = length-append numbers (length list ∷ list) in
    let same : list_at (numbers ++ length list ∷ list) (length numbers) ≡ list =
    ap (λ c. take c (drop (length numbers + 1) (numbers ++ length list ∷ list))) count ∙ ap (take (length list)) (past numbers (length list) list) ∙ take_all (length list) list (omega arith) in
    record {
      list = record { room = rw count (omega arith); below = subst (λ l. (x : ℕ) → x < length l → slice_index l x < n) (sym same) below };
      has = λ k. subst (λ l. IsTrue (has_number k l) ↔ ((k < n) × P k)) (sym same) (has k);
    }
  where
    past : (xs : List ℕ) (x : ℕ) (ys : List ℕ) → drop (length xs + 1) (xs ++ x ∷ ys) ≡ ys
    past [] x ys = refl
    past (z ∷ xs) x ys = ap (λ n. drop n (z ∷ (xs ++ x ∷ ys))) (let e : suc (length xs) + 1 ≡ suc (length xs + 1) = omega arith in e) ∙ past xs x ys

-- the range of a list
pub list_range : (numbers : List ℕ) (place : ℕ) → take (place + 1 + slice_index numbers place - (place + 1)) (drop (place + 1) numbers) ≡ list_at numbers place
list_range numbers place = ap (λ c. take c (drop (place + 1) numbers)) (let e : place + 1 + slice_index numbers place - (place + 1) ≡ slice_index numbers place = omega arith in e)

-- a list stays one where its fact is put in other words
pub list_of_iff : (numbers : List ℕ) (n place : ℕ) (P Q : ℕ → Type 0) → ((k : ℕ) → P k ↔ Q k) → IsListOf numbers n place P → IsListOf numbers n place Q
list_of_iff numbers n place P Q same is = record {
  list = is.list;
  has = λ k. (
    λ h. let (lt, p) = (is.has k).0 h in (lt, (same k).0 p),
    λ (lt, q). (is.has k).1 (lt, (same k).1 q),
  );
}
