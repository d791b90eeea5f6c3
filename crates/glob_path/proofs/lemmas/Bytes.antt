-- The entries of pairs, once more bytes lie behind those that they speak of.
use Rattle.std.proofs.Common.{◌≡◌, ℕ, List, [], ◌∷◌, ◌++◌, ◌+◌, ◌-◌, ◌≤◌, refl, sym, ap, ◌∙◌, length, take, drop, slice_range, arith, ⊎_elim, All, length-drop, length-append}
use Rattle.std.proofs.lemmas.Bool.{cases_lt}
use Rattle.std.proofs.lemmas.List.{take-append-le, drop-append-le, drop_at, take_all, map_push}
use Rattle.std.proofs.lemmas.List.Elements.{All-head, All-tail, All-push, All-weaker}
use Rattle.glob_path.specs.Entries.{entry}
use Rattle.glob_path.specs.declared.pairs.Pair.{Pair}
use Rattle.glob_path.specs.inner.Pairs.{pair_entry, entries_of, hash_of, IsKept}

part_kept : (bytes more : List ℕ) (s e : ℕ) → e ≤ length bytes → slice_range (bytes ++ more) s e ≡ slice_range bytes s e
part_kept bytes more s e le =
    ⊎_elim
    (λ past. ap (λ n. take n (drop s (bytes ++ more))) (let z : e - s ≡ 0 = omega arith in z) ∙ sym (ap (λ n. take n (drop s bytes)) (let z : e - s ≡ 0 = omega arith in z)))
    (λ within. ap (take (e - s)) (drop-append-le s bytes more within) ∙ take-append-le (e - s) (drop s bytes) more (omega (arith, length-drop s bytes)))
    (cases_lt (length bytes) s)

pub entries_kept : (bytes more : List ℕ) (ps : List Pair) → All (IsKept bytes) ps → entries_of (bytes ++ more) ps ≡ entries_of bytes ps
entries_kept bytes more [] h = refl
entries_kept bytes more (p ∷ ps) h =
    ap (λ k. entry k p.index ∷ entries_of (bytes ++ more) ps) (part_kept bytes more p.start p.end (All-head (IsKept bytes) p ps h).0)
    ∙ ap (λ l. pair_entry bytes p ∷ l) (entries_kept bytes more ps (All-tail (IsKept bytes) p ps h))

part_added : (bytes key : List ℕ) (s e : ℕ) → s ≡ length bytes → e ≡ s + length key → slice_range (bytes ++ key) s e ≡ key
part_added bytes key s e at long =
    ap (take (e - s)) (drop_at bytes key s (sym at)) ∙ take_all (e - s) key (omega arith)

pub entries_added : (bytes key : List ℕ) (ps : List Pair) (p : Pair) → All (IsKept bytes) ps →
    p.start ≡ length bytes → p.end ≡ p.start + length key → entries_of (bytes ++ key) (ps ++ p ∷ []) ≡ entries_of bytes ps ++ entry key p.index ∷ []
entries_added bytes key ps p h at long =
    map_push (pair_entry (bytes ++ key)) ps p
    ∙ ap (λ l. l ++ pair_entry (bytes ++ key) p ∷ []) (entries_kept bytes key ps h)
    ∙ ap (λ k. entries_of bytes ps ++ entry k p.index ∷ []) (part_added bytes key p.start p.end at long)

pub kept_more : (bytes more : List ℕ) (p : Pair) → IsKept bytes p → IsKept (bytes ++ more) p
kept_more bytes more p h = (omega (arith, h.0, length-append bytes more), h.1 ∙ ap hash_of (sym (part_kept bytes more p.start p.end h.0)))

pub kept_added : (bytes key : List ℕ) (ps : List Pair) (p : Pair) → All (IsKept bytes) ps →
    p.start ≡ length bytes → p.end ≡ p.start + length key → p.hash ≡ hash_of key → All (IsKept (bytes ++ key)) (ps ++ p ∷ [])
kept_added bytes key ps p h at long e =
    All-push (IsKept (bytes ++ key)) ps p (All-weaker (IsKept bytes) (IsKept (bytes ++ key)) (kept_more bytes key) ps h)
    (omega (arith, length-append bytes key), e ∙ ap hash_of (sym (part_added bytes key p.start p.end at long)))

-- the first key, once it is the bytes
pub first_added : (bytes key : List ℕ) (ps : List Pair) (p : Pair) → All (IsKept bytes) ps → length bytes ≡ 0 →
    p.start ≡ 0 → p.end ≡ length key → entries_of key (ps ++ p ∷ []) ≡ entries_of bytes ps ++ entry key p.index ∷ []
first_added [] key ps p h none at long = entries_added [] key ps p h at (omega (arith, at, long))
first_added (b ∷ bytes) key ps p h none at long = absurd (omega (arith, none))
