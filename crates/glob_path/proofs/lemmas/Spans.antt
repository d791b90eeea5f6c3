-- What the texts of a span go on with.
use Rattle.std.proofs.Common.{◌≡◌, ◌≢◌, ℕ, zero, suc, ◌+◌, ◌-◌, ◌<◌, ◌≤◌, ◌==◌, ◌&&◌, Bool, true, false, cond, List, [], ◌∷◌, ◌++◌, Some, None, length, map, take, drop, get_or, refl, sym, ap, subst, ◌∙◌, arith, ⊎_elim, inl, inr, append-nil, length-append}
use Rattle.std.specs.Prelude.{slice_get, slice_range, slice_index_or}
use Rattle.std.specs.Str.{bytes_eq}
use Rattle.std.specs.List.{AllWithin, HoldsAt, AllByRecursion}
use Rattle.std.proofs.lemmas.Bool.{cases_lt, true≢false}
use Rattle.std.proofs.lemmas.Bool.Decides.{nat_tests}
use Rattle.std.proofs.lemmas.List.{map-append, length-drop}
use Rattle.glob_path.specs.Entries.{Entry, indexes_under}
use Rattle.glob_path.specs.declared.trie.Text.{Text}
use Rattle.glob_path.specs.declared.tree.Span.{Span}
use Rattle.glob_path.specs.inner.Building.{rest_of, next_of, rests, rests_of, IsOrdered, IsUpTo, IsSpan, AreSpans, picked, IsSplit, ShareRun}
use Rattle.glob_path.proofs.lemmas.Ranges.{all_in_range, range_split, range-map, all_append, all_weaker, rising_push}
use Rattle.glob_path.specs.inner.Nodes.{past}
use Rattle.glob_path.proofs.lemmas.Runs.{past_byte, past_same, past_push}
use Rattle.glob_path.proofs.lemmas.Walks.{drop_some, drop_none, within_some}

pub under_append : (es fs : List Entry) (k : List ℕ) → indexes_under (es ++ fs) k ≡ indexes_under es k ++ indexes_under fs k
under_append [] fs k = refl
under_append (e ∷ es) fs k =
    ap (λ l. cond (bytes_eq e.key k) (e.index ∷ l) l) (under_append es fs k)
    ∙ both (bytes_eq e.key k) e.index (indexes_under es k) (indexes_under fs k)
  where
    both : (b : Bool) (i : ℕ) (us vs : List ℕ) → cond b (i ∷ (us ++ vs)) (us ++ vs) ≡ cond b (i ∷ us) us ++ vs
    both true i us vs = refl
    both false i us vs = refl

-- one text that ends is found under the empty text alone
ended_here : (d i : ℕ) (q w : List ℕ) (us : List ℕ) → q ≡ [] → cond (bytes_eq q []) (i ∷ us) us ≡ i ∷ us
ended_here d i q w us e = ap (λ x. cond (bytes_eq x []) (i ∷ us) us) e

ended_not : (i b : ℕ) (q w us : List ℕ) → q ≡ [] → cond (bytes_eq q (b ∷ w)) (i ∷ us) us ≡ us
ended_not i b q w us e = ap (λ x. cond (bytes_eq x (b ∷ w)) (i ∷ us) us) e

-- texts that end
pub own_under : (d : ℕ) (ts : List Text) → AllByRecursion (λ t. next_of d t ≡ None) ts → indexes_under (map (rest_of d) ts) [] ≡ map (λ t. t.index) ts
own_under d [] h = refl
own_under d (t ∷ ts) h =
    ended_here d t.index (drop d t.bytes.items) [] (indexes_under (map (rest_of d) ts) []) (drop_none t.bytes.items d h.0)
    ∙ ap (λ l. t.index ∷ l) (own_under d ts h.1)

pub own_not : (d : ℕ) (ts : List Text) → AllByRecursion (λ t. next_of d t ≡ None) ts → (b : ℕ) (w : List ℕ) → indexes_under (map (rest_of d) ts) (b ∷ w) ≡ []
own_not d [] h b w = refl
own_not d (t ∷ ts) h b w =
    ended_not t.index b (drop d t.bytes.items) w (indexes_under (map (rest_of d) ts) (b ∷ w)) (drop_none t.bytes.items d h.0)
    ∙ own_not d ts h.1 b w

one_run : (x b i : ℕ) (q r w us vs : List ℕ) → q ≡ x ∷ r → us ≡ cond (x == b) vs [] →
    cond (bytes_eq q (b ∷ w)) (i ∷ us) us ≡ cond (x == b) (cond (bytes_eq r w) (i ∷ vs) vs) []
one_run x b i q r w us vs e u =
    ap (λ y. cond (bytes_eq y (b ∷ w)) (i ∷ us) us) e
    ∙ ap (λ l. cond ((x == b) && bytes_eq r w) (i ∷ l) l) u
    ∙ same (x == b) (bytes_eq r w) i vs
  where
    same : (p q : Bool) (i : ℕ) (vs : List ℕ) → cond (p && q) (i ∷ cond p vs []) (cond p vs []) ≡ cond p (cond q (i ∷ vs) vs) []
    same true q i vs = refl
    same false q i vs = refl

same_both : (p : Bool) (us : List ℕ) → us ≡ cond p us us
same_both true us = refl
same_both false us = refl

-- texts that go on with the byte x
pub run_under : (d x : ℕ) (ts : List Text) → AllByRecursion (λ t. next_of d t ≡ Some x) ts → (b : ℕ) (w : List ℕ) →
    indexes_under (map (rest_of d) ts) (b ∷ w) ≡ cond (x == b) (indexes_under (map (rest_of (d + 1)) ts) w) []
run_under d x [] h b w = same_both (x == b) []
run_under d x (t ∷ ts) h b w =
    one_run x b t.index (drop d t.bytes.items) (drop (d + 1) t.bytes.items) w (indexes_under (map (rest_of d) ts) (b ∷ w)) (indexes_under (map (rest_of (d + 1)) ts) w)
    (drop_some t.bytes.items d x h.0) (run_under d x ts h.1 b w)

pub run_not : (d : ℕ) (ts : List Text) → AllByRecursion (λ t. d < length t.bytes.items) ts → indexes_under (map (rest_of d) ts) [] ≡ []
run_not d [] h = refl
run_not d (t ∷ ts) h =
    longer (drop d t.bytes.items) t.index (indexes_under (map (rest_of d) ts) []) (omega (arith, h.0, length-drop d t.bytes.items)) ∙ run_not d ts h.1
  where
    longer : (q : List ℕ) (i : ℕ) (us : List ℕ) → 0 < length q → cond (bytes_eq q []) (i ∷ us) us ≡ us
    longer [] i us l = absurd (omega arith)
    longer (x ∷ q) i us l = refl

pub rests_split : (texts : List Text) (d i j k : ℕ) → i ≤ j → j ≤ k → rests texts d i k ≡ rests texts d i j ++ rests texts d j k
rests_split texts d i j k a b = ap (map (rest_of d)) (range_split texts i j k a b) ∙ map-append (rest_of d) (slice_range texts i j) (slice_range texts j k)

picked_push : (texts : List Text) (bs : List ℕ) (ss : List Span) (x : ℕ) (s : Span) (b : ℕ) (w : List ℕ) → length bs ≡ length ss → AllByRecursion (λ y. y < x) bs →
    picked texts (bs ++ x ∷ []) (ss ++ s ∷ []) b w ≡ picked texts bs ss b w ++ cond (x == b) (indexes_under (rests_of texts s) w) []
picked_push texts [] [] x s b w n h = refl
picked_push texts [] (r ∷ ss) x s b w n h = absurd (omega arith)
picked_push texts (y ∷ bs) [] x s b w n h = absurd (omega arith)
picked_push texts (y ∷ bs) (r ∷ ss) x s b w n h =
    ap (cond (y == b) (indexes_under (rests_of texts r) w)) (picked_push texts bs ss x s b w (omega arith) h.1)
    ∙ apart (y == b) (x == b) (indexes_under (rests_of texts r) w) (picked texts bs ss b w) (indexes_under (rests_of texts s) w)
    (differ y x b h.0)
  where
    differ : (y x b : ℕ) → y < x → y == b ≡ true → x == b ≡ false
    differ y x b l p = grind (arith, nat_tests)

    apart : (p q : Bool) (us vs ws : List ℕ) → (p ≡ true → q ≡ false) → cond p us (vs ++ cond q ws []) ≡ cond p us vs ++ cond q ws []
    apart true true us vs ws f = absurd (true≢false (f refl))
    apart true false us vs ws f = sym (append-nil us)
    apart false q us vs ws f = refl

limit_tail : (x : ℕ) (q r : List ℕ) → IsUpTo (x ∷ q) (x ∷ r) → IsUpTo q r
limit_tail x q r (inl l) = absurd (omega arith)
limit_tail x q r (inr h) = h.1

limit_head : (x y : ℕ) (q r : List ℕ) → IsUpTo (x ∷ q) (y ∷ r) → x ≤ y
limit_head x y q r (inl l) = omega arith
limit_head x y q r (inr h) = omega (arith, h.0)

-- the span of a run, one byte further on
pub run_span : (texts : List Text) (least from to x : ℕ) (s : Span) → least ≤ s.depth + 1 → s.to ≤ length texts → IsOrdered texts s.depth s.from s.to → s.from ≤ from → from ≤ to → to ≤ s.to →
    AllWithin (λ t. next_of s.depth t ≡ Some x) texts from to → AllWithin (λ t. s.depth < length t.bytes.items) texts s.from s.to → from < s.to → (e : Text) →
    IsSpan texts least (record { from = from; to = to; depth = s.depth + 1 })
run_span texts least from to x s few end ordered a b c run long l e = record {
  from = b;
  to = omega arith;
  late = few;
  deep = λ n w. omega (arith, long from e a l, w from e (omega arith) (omega arith));
  ordered = λ i j f g p q r.
      limit_tail x _ _
      (subst (λ y. IsUpTo y (x ∷ drop (s.depth + 1) (slice_index_or texts j g).bytes.items)) (drop_some (slice_index_or texts i f).bytes.items s.depth x (run i f p (omega arith)))
      (subst (λ y. IsUpTo (drop s.depth (slice_index_or texts i f).bytes.items) y) (drop_some (slice_index_or texts j g).bytes.items s.depth x (run j g (omega arith) r))
      (ordered i j f g (omega arith) q (omega arith))));
}

-- texts that go on with a byte are longer
pub run_long : (texts : List Text) (d from to x : ℕ) → AllWithin (λ t. next_of d t ≡ Some x) texts from to → AllWithin (λ t. d < length t.bytes.items) texts from to
run_long texts d from to x run = λ k e a b. within_some (slice_index_or texts k e).bytes.items d x (run k e a b)

some_text : (texts : List Text) → 0 < length texts → Text
some_text [] l = absurd (omega arith)
some_text (t ∷ texts) l = t

-- a whole span, one byte further on
pub whole_span : (texts : List Text) (least x : ℕ) (s : Span) → IsSpan texts least s → AllWithin (λ t. next_of s.depth t ≡ Some x) texts s.from s.to → s.from < s.to →
    IsSpan texts least (record { from = s.from; to = s.to; depth = s.depth + 1 })
whole_span texts least x s h run l =
    run_span texts least s.from s.to x s (omega (arith, h.late)) h.to h.ordered (omega arith) h.from (omega arith) run (run_long texts s.depth s.from s.to x run) l
    (some_text texts (omega (arith, h.to)))

-- a span after at least fewer bytes
pub spans_lower : (texts : List Text) (least d : ℕ) (ss : List Span) → least ≤ d → AreSpans texts d ss → AreSpans texts least ss
spans_lower texts least d ss l h =
    all_weaker (IsSpan texts d) (IsSpan texts least) (λ s m. record { from = m.from; to = m.to; late = omega (arith, m.late); deep = m.deep; ordered = m.ordered }) ss h

-- the split of no texts
pub split_none : (texts : List Text) (least d : ℕ) → (n : ℕ) → IsSplit texts least (rests texts d n n) [] []
split_none texts least d n = record {
  len = refl;
  rising = λ k l. absurd (omega arith);
  picks = λ b w. ap (λ m. indexes_under (map (rest_of d) (take m (drop n texts))) (b ∷ w)) (sym (minus n));
  spans = tt;
}
  where
    minus : (n : ℕ) → n - n ≡ 0
    minus n = omega arith

-- the split, and one more run
pub split_more : (texts : List Text) (from to x : ℕ) (s : Span) (bs : List ℕ) (ss : List Span) → s.to ≤ length texts → IsOrdered texts s.depth s.from s.to → s.from ≤ from → from < to → to ≤ s.to →
    AllWithin (λ t. next_of s.depth t ≡ Some x) texts from to → AllWithin (λ t. s.depth < length t.bytes.items) texts s.from s.to → AllByRecursion (λ y. y < x) bs → (e : Text) →
    IsSplit texts (s.depth + 1) (rests texts s.depth s.from from) bs ss →
    IsSplit texts (s.depth + 1) (rests texts s.depth s.from to) (bs ++ x ∷ []) (ss ++ record { from = from; to = to; depth = s.depth + 1 } ∷ [])
split_more texts from to x s bs ss end ordered a b c run long above e v =
    let d = s.depth in
    let next : Span = record { from = from; to = to; depth = d + 1 } in record {
      len = omega (arith, v.len, length-append bs (x ∷ []), length-append ss (next ∷ []));
      rising = rising_push bs x v.rising above;
      picks = λ k w.
          picked_push texts bs ss x next k w v.len above
          ∙ ap (λ l. l ++ cond (x == k) (indexes_under (rests texts (d + 1) from to) w) []) (v.picks k w)
          ∙ ap (λ l. indexes_under (rests texts d s.from from) (k ∷ w) ++ l) (sym (run_under d x (slice_range texts from to) (all_in_range (λ t. next_of d t ≡ Some x) texts from to run) k w))
          ∙ sym (under_append (rests texts d s.from from) (rests texts d from to) (k ∷ w))
          ∙ ap (λ l. indexes_under l (k ∷ w)) (sym (rests_split texts d s.from from to a (omega arith)));
      spans = all_append (IsSpan texts (d + 1)) ss (next ∷ []) v.spans (run_span texts (d + 1) from to x s (omega arith) end ordered a (omega arith) c run long (omega arith) e, tt);
    }

-- a run of no bytes
pub shared_none : (texts : List Text) (s : Span) → ShareRun texts s [] s
shared_none texts s = λ w. refl

byte_shared : (texts : List Text) (x : ℕ) (a : Span) → AllWithin (λ t. next_of a.depth t ≡ Some x) texts a.from a.to → AllWithin (λ t. a.depth < length t.bytes.items) texts a.from a.to →
    (v : List ℕ) → indexes_under (rests_of texts a) v ≡ past (x ∷ []) (indexes_under (rests texts (a.depth + 1) a.from a.to)) v
byte_shared texts x a run long [] = run_not a.depth (slice_range texts a.from a.to) (all_in_range (λ t. a.depth < length t.bytes.items) texts a.from a.to long)
byte_shared texts x a run long (b ∷ w) =
    let f = indexes_under (rests texts (a.depth + 1) a.from a.to) in
    run_under a.depth x (slice_range texts a.from a.to) (all_in_range (λ t. next_of a.depth t ≡ Some x) texts a.from a.to run) b w
    ∙ past_byte (x == b) (Some w) f (f w) refl

-- a run, and one more byte
pub shared_more : (texts : List Text) (x : ℕ) (s a : Span) (run : List ℕ) → AllWithin (λ t. next_of a.depth t ≡ Some x) texts a.from a.to →
    ShareRun texts s run a → ShareRun texts s (run ++ x ∷ []) (record { from = a.from; to = a.to; depth = a.depth + 1 })
shared_more texts x s a run all h = λ w.
    let f = indexes_under (rests texts (a.depth + 1) a.from a.to) in
    h w
    ∙ past_same _ (indexes_under (rests_of texts a)) (past (x ∷ []) f) (byte_shared texts x a all (run_long texts a.depth a.from a.to x all))
    ∙ sym (past_push run x f w)

-- the next run goes on with a higher byte
pub above_more : (texts : List Text) (d from to x : ℕ) (s : Span) (bs : List ℕ) → IsOrdered texts d s.from s.to → s.from ≤ from → from < to → to < s.to →
    AllWithin (λ t. next_of d t ≡ Some x) texts from to → HoldsAt (λ t. next_of d t ≢ Some x) texts to → AllByRecursion (λ y. y < x) bs →
    (y : ℕ) (e : Text) → next_of d (slice_index_or texts to e) ≡ Some y → AllByRecursion (λ z. z < y) (bs ++ x ∷ [])
above_more texts d from to x s bs ordered a b c run stop above y e n =
    let at = drop_some (slice_index_or texts from e).bytes.items d x (run from e (omega arith) b) in
    let next = drop_some (slice_index_or texts to e).bytes.items d y n in
    let up = limit_head x y _ _
    (subst (λ q. IsUpTo q (y ∷ drop (d + 1) (slice_index_or texts to e).bytes.items)) at
    (subst (λ q. IsUpTo (drop d (slice_index_or texts from e).bytes.items) q) next (ordered from to e e a (omega arith) c))) in
    let higher : x < y = ⊎_elim (λ (l : x < y). l) (λ (g : y ≤ x). absurd (stop e (n ∙ ap Some (same y x g up)))) (cases_lt x y) in
    all_append (λ z. z < y) bs (x ∷ []) (all_weaker (λ z. z < x) (λ z. z < y) (λ z l. omega arith) bs above) (higher, tt)
  where
    same : (y x : ℕ) → y ≤ x → x ≤ y → y ≡ x
    same y x a b = omega arith

pub get_some : {X : Type 0} (q : List X) (i : ℕ) (x e : X) → i < length q → x ≡ get_or q i e → slice_get q i ≡ Some x
get_some [] i x e l h = absurd (omega arith)
get_some (y ∷ q) zero x e l h = ap Some (sym h)
get_some (y ∷ q) (suc i) x e l h = get_some q i x e (omega arith) h

pub drop_at : {X : Type 0} (q : List X) (i : ℕ) (e : X) → i < length q → drop i q ≡ get_or q i e ∷ drop (i + 1) q
drop_at q i e l = drop_some q i (get_or q i e) (get_some q i (get_or q i e) e l refl)

get_none : (q : List ℕ) (i : ℕ) → length q ≤ i → slice_get q i ≡ None
get_none [] i l = refl
get_none (y ∷ q) zero l = absurd (omega arith)
get_none (y ∷ q) (suc i) l = get_none q i (omega arith)

-- a run is not empty
pub run_moves : (texts : List Text) (d from to r x : ℕ) (e : Text) → from ≤ r → from < to → (r < to → HoldsAt (λ t. next_of d t ≢ Some x) texts r) →
    next_of d (slice_index_or texts from e) ≡ Some x → from < r
run_moves texts d from to r x e a b stop n =
    ⊎_elim (λ (l : from < r). l)
    (λ (g : r ≤ from). let same : from ≡ r = omega arith in absurd (stop (omega arith) e (subst (λ k. next_of d (slice_index_or texts k e) ≡ Some x) same n)))
    (cases_lt from r)

limit_some : (q r : List ℕ) → IsUpTo q r → 0 < length q → 0 < length r
limit_some [] r h l = absurd (omega arith)
limit_some (x ∷ q) [] h l = absurd h
limit_some (x ∷ q) (y ∷ r) h l = omega arith

-- after those that end, each text goes on
pub long_rest : (texts : List Text) (own : ℕ) (s : Span) → IsOrdered texts s.depth s.from s.to → s.from ≤ own →
    (own < s.to → HoldsAt (λ t. next_of s.depth t ≢ None) texts own) → AllWithin (λ t. s.depth < length t.bytes.items) texts own s.to
long_rest texts own s ordered a stop k e b c =
    let d = s.depth in
    let first = (slice_index_or texts own e).bytes.items in
    let here = (slice_index_or texts k e).bytes.items in
    let longer : d < length first =
    ⊎_elim (λ (l : d < length first). l) (λ (g : length first ≤ d). absurd (stop (omega arith) e (get_none first d g))) (cases_lt d (length first)) in
    let some = limit_some (drop d first) (drop d here) (ordered own k e e a b c) (omega (arith, length-drop d first)) in
    omega (arith, some, length-drop d here)

-- those that end do not count under a longer text
pub split_whole : (texts : List Text) (least own : ℕ) (s : Span) (bs : List ℕ) (ss : List Span) → s.from ≤ own → own ≤ s.to → AllWithin (λ t. next_of s.depth t ≡ None) texts s.from own →
    least ≤ s.depth → IsSplit texts (s.depth + 1) (rests texts s.depth own s.to) bs ss → IsSplit texts (least + 1) (rests_of texts s) bs ss
split_whole texts least own s bs ss a b run few v = record {
  len = v.len;
  rising = v.rising;
  picks = λ k w.
      let d = s.depth in
      v.picks k w
      ∙ ap (λ l. l ++ indexes_under (rests texts d own s.to) (k ∷ w)) (sym (own_not d (slice_range texts s.from own) (all_in_range (λ t. next_of d t ≡ None) texts s.from own run) k w))
      ∙ sym (under_append (rests texts d s.from own) (rests texts d own s.to) (k ∷ w))
      ∙ ap (λ l. indexes_under l (k ∷ w)) (sym (rests_split texts d s.from own s.to a b));
  spans = spans_lower texts (least + 1) (s.depth + 1) ss (omega arith) v.spans;
}

-- the indexes of those that end
pub own_held : (texts : List Text) (own : ℕ) (s : Span) → s.from ≤ own → own ≤ s.to → AllWithin (λ t. next_of s.depth t ≡ None) texts s.from own →
    AllWithin (λ t. s.depth < length t.bytes.items) texts own s.to → slice_range (map (λ t. t.index) texts) s.from own ≡ indexes_under (rests_of texts s) []
own_held texts own s a b run long =
    let d = s.depth in
    range-map (λ t. t.index) texts s.from own
    ∙ sym (own_under d (slice_range texts s.from own) (all_in_range (λ t. next_of d t ≡ None) texts s.from own run))
    ∙ sym (append-nil (indexes_under (rests texts d s.from own) []))
    ∙ ap (λ l. indexes_under (rests texts d s.from own) [] ++ l) (sym (run_not d (slice_range texts own s.to) (all_in_range (λ t. d < length t.bytes.items) texts own s.to long)))
    ∙ sym (under_append (rests texts d s.from own) (rests texts d own s.to) [])
    ∙ ap (λ l. indexes_under l []) (sym (rests_split texts d s.from own s.to a b))
