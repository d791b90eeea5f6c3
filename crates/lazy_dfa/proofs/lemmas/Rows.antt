-- Rows that are added, written and found again.
use Rattle.std.proofs.Common.{◌≡◌, ◌≢◌, ℕ, ◌+◌, ◌-◌, ◌*◌, ◌<◌, ◌≤◌, ◌⊎◌, ◌||◌, inl, inr, Bool, true, false, true≢false, ltb, List, [], ◌∷◌, ◌++◌, Some, None, length, take, drop, replicate, slice_index, slice_set, IsTrue, refl, ap, sym, ◌∙◌, subst, arith, length-append}
use Rattle.std.specs.Prelude.{◌↔◌, IsFalse, Option, MatchOption, is_some}
use Rattle.std.proofs.lemmas.Bool.{cases_lt, or_cases}
use Rattle.std.proofs.lemmas.Nat.{mul-le}
use Rattle.std.proofs.lemmas.List.{get_or_append_left, get_or-append_right, get_or-replicate, get_or-set_same, get_or-set_other, take_all, length-set, length-replicate}
use Rattle.std.proofs.Math.Seq.{get_or-append_seam, drop-append-add}
use Rattle.std.proofs.Math.Logic.{⊎_elim}
use Rattle.bit_sets.specs.Numbers.{has_number, AreBelow}
use Rattle.bit_sets.specs.StateSets.{has_state}
use Rattle.bit_sets.specs.declared.state_set.StateSet.{StateSet}
use Rattle.byte_nfa.specs.Steps.{NfaValue, IsReached, state}
use Rattle.lazy_dfa.specs.DfaValue.{DfaValue}
use Rattle.byte_nfa.specs.Equivalent.{AreEquivalent, reads_byte}
use Rattle.byte_nfa.proofs.lemmas.Equivalent.{accepts_equivalent}
use Rattle.byte_nfa.specs.Runs.{size, AcceptsFrom, AcceptsIn}
use Rattle.byte_nfa.proofs.lemmas.Pass.{or_first, accepts_within}
use Rattle.byte_nfa.specs.EarlyMatches.{half, FindsBy}
use Rattle.lazy_dfa.specs.inner.Lists.{list_at, IsList, IsListOf}
use Rattle.lazy_dfa.proofs.lemmas.Lists.{list_of_iff, keeps_lists, list_last}
use Rattle.bit_sets.specs.Bits.{TellsFirstBelow}
use Rattle.bit_sets.specs.Indexes.{has_index}
use Rattle.bit_sets.specs.declared.index_set.IndexSet.{IndexSet}
use Rattle.lazy_dfa.proofs.lemmas.Lists as Lists
use Rattle.lazy_dfa.specs.declared.rows.Rows.{Rows}
use Rattle.lazy_dfa.specs.declared.rows.Step.{Step}
use Rattle.std.specs.List.Sorted.{IsStrictlyIncreasing}
use Rattle.lazy_dfa.specs.inner.Hashes.{list_hash}
use Rattle.lazy_dfa.specs.inner.Index.{IsFree, IsIndexed}
use Rattle.lazy_dfa.proofs.lemmas.Index.{index_added, index_kept}
use Rattle.lazy_dfa.specs.inner.Dfa.{IsDfa}
use Rattle.lazy_dfa.specs.inner.Rows.{AcceptsRow, HasNoRow, IsNext, IsEnd, IsEntry, IsEntryBy, IsSound, HasEnds, HasMarks, GoesTo, IsDeadBy, HasRoomForOne, marked, KeepsRows, states_of, place_of, max_entries, IsAt, BeginsAt, IsStep, LeadsTo, MarksAre}

-- places of entries

pub place_within : (i c n w : ℕ) → i < n → c ≤ w → i * (w + 1) + c < n * (w + 1)
place_within i c n w lt le = let h = mul-le (i + 1) (w + 1) n (w + 1) (omega arith) (omega arith) in omega (arith, h)

pub same_place : (i c j d w : ℕ) → c ≤ w → d ≤ w → i * (w + 1) + c ≡ j * (w + 1) + d → (i ≡ j) × (c ≡ d)
same_place i c j d w hc hd e = ⊎_elim {C = (i ≡ j) × (c ≡ d)}
    (λ lt. let h = place_within i c j w lt hc in absurd (omega arith))
    (λ ge. ⊎_elim {C = (i ≡ j) × (c ≡ d)}
    (λ lt. let h = place_within j d i w lt hd in absurd (omega arith))
    (λ le. let is : i ≡ j = omega arith in (is, (let f = ap (λ x. x * (w + 1)) is in omega arith)))
    (cases_lt j i))
    (cases_lt i j)

-- states of a set, and of a list

pub accepts_listed : (m : NfaValue) (set : StateSet) (list : List ℕ) → ((t : ℕ) → IsTrue (has_number t list) ↔ ((t < size m) × IsTrue (has_state set t)))
    → (y : List ℕ) (k : ℕ) → AcceptsFrom m set y k ↔ AcceptsIn m list y k
accepts_listed m set list has y k = (
  λ (t, lt, at, h). (t, (has t).1 (lt, at), h),
  λ (t, at, h). let (lt, in') = (has t).0 at in (t, lt, in', h),
)

-- the states of a list were put into an empty set
pub accepts_loaded : (m : NfaValue) (empty set : StateSet) (list : List ℕ) → ((t : ℕ) → has_state empty t ≡ false) → ((t : ℕ) → has_state set t ≡ (has_number t list || has_state empty t))
    → (y : List ℕ) (k : ℕ) → AcceptsIn m list y k ↔ AcceptsFrom m set y k
accepts_loaded m empty set list none has y k = (
  λ (t, at, h). (t, accepts_within m.states k t y h, has t ∙ or_first (has_number t list) (has_state empty t) at, h),
  λ (t, lt, at, h). (t, listed t (or_cases (has_number t list) (has_state empty t) (sym (has t) ∙ at)), h),
)
  where
    listed : (t : ℕ) → IsTrue (has_number t list) ⊎ IsTrue (has_state empty t) → IsTrue (has_number t list)
    listed t (inl at) = at
    listed t (inr at) = absurd (true≢false (sym at ∙ none t))

-- a list stays where it is
pub list_kept : (lists more starts more' : List ℕ) (n i : ℕ) → i < length starts → IsList lists n (slice_index starts i)
    → (list_at (lists ++ more) (slice_index (starts ++ more') i) ≡ list_at lists (slice_index starts i)) × IsList (lists ++ more) n (slice_index (starts ++ more') i)
list_kept lists more starts more' n i lt is =
    let same : slice_index (starts ++ more') i ≡ slice_index starts i = get_or_append_left starts more' 0 i lt in
    let (list, states, count) = (keeps_lists lists more).1 n (slice_index starts i) is in
    (ap (list_at (lists ++ more)) same ∙ states, subst (IsList (lists ++ more) n) (sym same) list)

-- a row that is still there leads where it did
pub accepts_kept : (m : NfaValue) (old new : Rows) (i : ℕ) (y : List ℕ) (k : ℕ) → states_of new i ≡ states_of old i → AcceptsRow m old i y k ↔ AcceptsRow m new i y k
accepts_kept m old new i y k same = (λ a. subst (λ l. AcceptsIn m l y k) (sym same) a, λ a. subst (λ l. AcceptsIn m l y k) same a)

-- a row that is still there is where it was
pub at_kept : (d : DfaValue) (old new : Rows) (j p : ℕ) → KeepsRows old new → IsAt d old j p → IsAt d new j p
at_kept d old new j p keeps (lt, is) = ((let more = keeps.more in omega arith), is)

-- an entry is right where rows were added
module _ (d : DfaValue) (old new : Rows) (i : ℕ) (keeps : KeepsRows old new) (lt : i < length old.starts.items) where
  pub marks_still : HasMarks d.run old i → HasMarks d.run new i
  marks_still (k, low, a) = (k, low, (accepts_kept d.run old new i [] (half d.run + k) (keeps.states i lt)).0 a)

  pub marks_before : HasMarks d.run new i → HasMarks d.run old i
  marks_before (k, low, a) = (k, low, (accepts_kept d.run old new i [] (half d.run + k) (keeps.states i lt)).1 a)

  next_kept : (b e : ℕ) → IsNext d old i b e → IsNext d new i b e
  next_kept b e is = record {
    dead = λ one y k h. is.dead one y k (subst (λ l. AcceptsIn d.run l (b ∷ y) k) (keeps.states i lt) h);
    row = λ some.
        let (j, at, goes) = is.row some in (
          j,
          at_kept d old new j (e - 2) keeps at,
          λ y k. subst (λ l. AcceptsIn d.run l (b ∷ y) k ↔ AcceptsRow d.run new j y k) (sym (keeps.states i lt))
              (subst (λ l. AcceptsRow d.run old i (b ∷ y) k ↔ AcceptsIn d.run l y k) (sym (keeps.states j at.0)) (goes y k)),
        );
  }

  pub end_kept : (e : ℕ) → IsEnd d.run old i e → IsEnd d.run new i e
  end_kept e is = record {
    none = λ one k low h. is.none one k low (subst (λ l. AcceptsIn d.run l [] k) (keeps.states i lt) h);
    some = λ known. let (k, low, a) = is.some known in (k, low, (accepts_kept d.run old new i [] k (keeps.states i lt)).0 a);
    listed = λ known. list_of_iff new.lists.items (half d.run + half d.run) (e - 2) (AcceptsRow d.run old i []) (AcceptsRow d.run new i []) (λ k. accepts_kept d.run old new i [] k (keeps.states i lt))
        (Lists.list_kept old.lists.items new.lists.items (half d.run + half d.run) (e - 2) (AcceptsRow d.run old i []) keeps.lists (is.listed known));
  }

  pub entry_kept : (c e : ℕ) → IsEntry d old i c e → IsEntry d new i c e
  entry_kept c e is = record {
    byte = λ b byte class.
        let by = is.byte b byte class in
        record {
          plain = λ low. let (quiet, next) = by.plain low in (λ h. quiet (marks_before h), next_kept b e next);
          marks = λ high. let (marks, some, next) = by.marks high in (marks_still marks, some, next_kept b (e - marked) next);
        };
    end = λ column. end_kept e (is.end column);
  }

-- the rows are the same, beside the table
pub record HasSameRows (old new : Rows) : Type 0 where
  pub starts : new.starts.items ≡ old.starts.items
  pub lists : new.lists.items ≡ old.lists.items

pub same_keeps : (old new : Rows) → HasSameRows old new → KeepsRows old new
same_keeps old new is = record {
  more = rw is.starts (omega arith);
  states = λ i lt. rw (is.lists, is.starts) refl;
  lists = rw is.lists (omega arith, λ n place list. (list, refl, refl));
}

-- rows are found by their lists
abbrev pub Indexed : Rows → Type 0
Indexed rows = IsIndexed rows.table.items rows.seed rows.starts.items rows.lists.items

-- where a run begins
abbrev pub Begins : DfaValue → Rows → Type 0
Begins d rows = (p : ℕ) → rows.begin ≡ Some p → BeginsAt d rows p

pub begins_at_kept : (d : DfaValue) (old new : Rows) (p : ℕ) → KeepsRows old new → BeginsAt d old p → BeginsAt d new p
begins_at_kept d old new p keeps (j, at, begins) =
    (j, at_kept d old new j p keeps at, λ y k. subst (λ l. AcceptsIn d.run l y k ↔ IsReached d.run y k) (sym (keeps.states j at.0)) (begins y k))

begins_kept : (d : DfaValue) (old new : Rows) → HasSameRows old new → new.begin ≡ old.begin → Begins d old → Begins d new
begins_kept d old new is begin before p at = begins_at_kept d old new p (same_keeps old new is) (before p (sym begin ∙ at))

pub begun_sound : (d : DfaValue) (old new : Rows) → HasSameRows old new → new.entries.items ≡ old.entries.items → Indexed new → HasRoomForOne d new → Begins d new → IsSound d old → IsSound d new
begun_sound d old new is entries index room begins sound = record {
  dfa = sound.dfa;
  room = room;
  few = rw is.starts sound.few;
  small = rw entries sound.small;
  index = index;
  lists = rw (is.starts, is.lists) sound.lists;
  counts = rw (is.starts, is.lists) sound.counts;
  len = rw (is.starts, entries) sound.len;
  known = λ i c lt hc some.
      let same : slice_index new.entries.items (place_of d i c) ≡ slice_index old.entries.items (place_of d i c) = rw entries refl in
      let before : i < length old.starts.items = rw is.starts at lt in
      subst (IsEntry d new i c) (sym same) (entry_kept d old new i (same_keeps old new is) before c (slice_index old.entries.items (place_of d i c)) (sound.known i c before hc (subst (λ x. 0 < x) same some)));
  begins = begins;
}

pub same_sound : (d : DfaValue) (old new : Rows) → HasSameRows old new → new.entries.items ≡ old.entries.items → new.begin ≡ old.begin → Indexed new → HasRoomForOne d new → IsSound d old → IsSound d new
same_sound d old new is entries begin index room sound = begun_sound d old new is entries index room (begins_kept d old new is begin sound.begins) sound

-- an entry was written
pub entry_written : (d : DfaValue) (rows : Rows) (entries : List ℕ) (w n row column e i c : ℕ) → length entries ≡ n * (w + 1) → row < n → column ≤ w → c ≤ w
    → IsEntry d rows row column e → ((j x : ℕ) → j < n → x ≤ w → 0 < slice_index entries (j * (w + 1) + x) → IsEntry d rows j x (slice_index entries (j * (w + 1) + x)))
    → i < n → 0 < slice_index (slice_set entries (row * (w + 1) + column) e) (i * (w + 1) + c) → IsEntry d rows i c (slice_index (slice_set entries (row * (w + 1) + column) e) (i * (w + 1) + c))
entry_written d rows entries w n row column e i c len here hcol hc is known lt some = ⊎_elim {C = IsEntry d rows i c (slice_index new at)}
    (λ low. other (omega arith))
    (λ ge. ⊎_elim {C = IsEntry d rows i c (slice_index new at)} (λ high. other (omega arith)) (λ le. this (omega arith)) (cases_lt place at))
    (cases_lt at place)
  where
    place : ℕ
    place = row * (w + 1) + column

    at : ℕ
    at = i * (w + 1) + c

    new : List ℕ
    new = slice_set entries place e

    other : at ≢ place → IsEntry d rows i c (slice_index new at)
    other ne =
        let same : slice_index new at ≡ slice_index entries at = get_or-set_other entries place at e 0 ne in
        subst (IsEntry d rows i c) (sym same) (known i c lt hc (subst (λ x. 0 < x) same some))

    this : at ≡ place → IsEntry d rows i c (slice_index new at)
    this same =
        let room = place_within row column n w here hcol in
        let (is_row, is_column) = same_place i c row column w hc hcol same in
        let value : slice_index new at ≡ e = ap (slice_index new) same ∙ get_or-set_same entries place e 0 (omega arith) in
        subst (IsEntry d rows i c) (sym value) (subst (λ x. IsEntry d rows x c e) (sym is_row) (subst (λ x. IsEntry d rows row x e) (sym is_column) is))

-- the entries of a row that was added are not known

zeros : (n i : ℕ) → i < n → slice_index (replicate n 0) i ≡ 0
zeros n i lt = get_or-replicate n i 0 0 lt

pub entries_more : (entries : List ℕ) (w n i c : ℕ) → length entries ≡ n * (w + 1) → i < n + 1 → c ≤ w → 0 < slice_index (entries ++ replicate (w + 1) 0) (i * (w + 1) + c)
    → (i < n) × (slice_index (entries ++ replicate (w + 1) 0) (i * (w + 1) + c) ≡ slice_index entries (i * (w + 1) + c))
entries_more entries w n i c len lt hc some = ⊎_elim {C = (i < n) × (slice_index (entries ++ replicate (w + 1) 0) (i * (w + 1) + c) ≡ slice_index entries (i * (w + 1) + c))}
    (λ low. let h = place_within i c n w low hc in (low, get_or_append_left entries (replicate (w + 1) 0) 0 (i * (w + 1) + c) (omega arith)))
    (λ high.
    let is : i ≡ n = omega arith in
    let e = ap (λ x. x * (w + 1)) is in
    let none = get_or-append_right entries (replicate (w + 1) 0) (length entries) (i * (w + 1) + c) 0 refl (omega arith) ∙ zeros (w + 1) (i * (w + 1) + c - length entries) (omega arith) in
    absurd (omega (arith, none, some)))
    (cases_lt i n)

-- a row was added, of the states of a list, and its number was put into the table
pub record HasAdded (d : DfaValue) (old new : Rows) (list : List ℕ) (place : ℕ) : Type 0 where
  pub lists : new.lists.items ≡ old.lists.items ++ length list ∷ list
  pub starts : new.starts.items ≡ old.starts.items ++ length old.lists.items ∷ []
  pub entries : new.entries.items ≡ old.entries.items ++ replicate (d.class_count + 1) 0
  pub table : new.table.items ≡ slice_set old.table.items place (length old.starts.items + 1)
  pub seed : new.seed ≡ old.seed
  pub begin : new.begin ≡ old.begin

module _ (d : DfaValue) (old new : Rows) (list : List ℕ) (place : ℕ) (is : HasAdded d old new list place) (sound : IsSound d old) where
  more_starts : length new.starts.items ≡ length old.starts.items + 1
  more_starts = ap length is.starts ∙ length-append old.starts.items (length old.lists.items ∷ [])

  pub added_keeps : KeepsRows old new
  added_keeps = record {
    more = omega (arith, more_starts);
    states = λ i lt. rw (is.lists, is.starts) (list_kept old.lists.items (length list ∷ list) old.starts.items (length old.lists.items ∷ []) (size d.run) i lt (sound.lists i lt)).0;
    lists = rw is.lists (keeps_lists old.lists.items (length list ∷ list));
  }

  last_start : slice_index new.starts.items (length old.starts.items) ≡ length old.lists.items
  last_start = ap (λ l. slice_index l (length old.starts.items)) is.starts ∙ get_or-append_seam old.starts.items (length old.lists.items) [] 0

  last_count : slice_index new.lists.items (length old.lists.items) ≡ length list
  last_count = ap (λ l. slice_index l (length old.lists.items)) is.lists ∙ get_or-append_seam old.lists.items (length list) list 0

  last_list : list_at new.lists.items (length old.lists.items) ≡ list
  last_list =
      ap (λ n. take n (drop (length old.lists.items + 1) new.lists.items)) last_count
      ∙ ap (λ l. take (length list) (drop (length old.lists.items + 1) l)) is.lists
      ∙ ap (take (length list)) (drop-append-add old.lists.items (length list ∷ list) 1)
      ∙ take_all (length list) list (omega arith)

  pub added_states : states_of new (length old.starts.items) ≡ list
  added_states = ap (list_at new.lists.items) last_start ∙ last_list

  new_list : AreBelow (size d.run) list → IsList new.lists.items (size d.run) (length old.lists.items)
  new_list below = record {
    room = let len = ap length is.lists in let both = length-append old.lists.items (length list ∷ list) in omega (arith, last_count);
    below = subst (λ l. (x : ℕ) → x < length l → slice_index l x < size d.run) (sym last_list) below;
  }

  added_index : IsFree old.table.items (list_hash old.seed list) place → IsStrictlyIncreasing list → HasNoRow old list → Indexed new
  added_index free ordered none =
      rw (is.table, is.seed) (index_added old.table.items old.seed old.starts.items new.starts.items old.lists.items new.lists.items list place more_starts added_keeps.states added_states free ordered none sound.index)

  pub added_sound : AreBelow (size d.run) list → length list ≤ size d.run → IsFree old.table.items (list_hash old.seed list) place → IsStrictlyIncreasing list → HasNoRow old list
      → length old.starts.items < max_entries → length old.entries.items + d.class_count < max_entries → HasRoomForOne d new → IsSound d new
  added_sound below short free ordered none few small room = record {
    dfa = sound.dfa;
    room = room;
    few = omega (arith, more_starts);
    small =
        let both = ap length is.entries ∙ length-append old.entries.items (replicate (d.class_count + 1) 0) in
        let zeros_len = length-replicate {A = ℕ} (d.class_count + 1) 0 in
        omega (arith, both, zeros_len, small);
    index = added_index free ordered none;
    lists = λ i lt. ⊎_elim {C = IsList new.lists.items (size d.run) (slice_index new.starts.items i)}
        (λ before. rw (is.lists, is.starts) (list_kept old.lists.items (length list ∷ list) old.starts.items (length old.lists.items ∷ []) (size d.run) i before (sound.lists i before)).1)
        (λ past. let this : i ≡ length old.starts.items = omega (arith, more_starts) in
        subst (IsList new.lists.items (size d.run)) (sym (ap (slice_index new.starts.items) this ∙ last_start)) (new_list below))
        (cases_lt i (length old.starts.items));
    counts = λ i lt. ⊎_elim {C = length (states_of new i) ≤ size d.run}
        (λ before. subst (λ l. length l ≤ size d.run) (sym (added_keeps.states i before)) (sound.counts i before))
        (λ past. let this : i ≡ length old.starts.items = omega (arith, more_starts) in
        subst (λ l. length l ≤ size d.run) (sym (ap (states_of new) this ∙ added_states)) short)
        (cases_lt i (length old.starts.items));
    len =
        let both = ap length is.entries ∙ length-append old.entries.items (replicate (d.class_count + 1) 0) in
        let zeros_len = length-replicate {A = ℕ} (d.class_count + 1) 0 in
        let old_len = sound.len in
        rw more_starts (omega (arith, both, zeros_len, old_len));
    known = λ i c lt hc some.
        let w = d.class_count in
        let value : slice_index new.entries.items (place_of d i c) ≡ slice_index (old.entries.items ++ replicate (w + 1) 0) (i * (w + 1) + c) = ap (λ l. slice_index l (i * (w + 1) + c)) is.entries in
        let (before, same) = entries_more old.entries.items w (length old.starts.items) i c sound.len (omega (arith, more_starts)) hc (subst (λ x. 0 < x) value some) in
        subst (IsEntry d new i c) (sym (value ∙ same)) (entry_kept d old new i added_keeps before c (slice_index old.entries.items (i * (w + 1) + c))
        (sound.known i c before hc (subst (λ x. 0 < x) (value ∙ same) some)));
    begins = λ p at. begins_at_kept d old new p added_keeps (sound.begins p (sym is.begin ∙ at));
  }

-- the look for an index in a range
pub in_range : (from end : ℕ) (set : ℕ → Bool) (o : Option ℕ) (r : Bool) → r ≡ is_some o
    → MatchOption o ((k : ℕ) → from ≤ k → k < end → set k ≡ false) (λ at. (from ≤ at) × (at < end) × (set at ≡ true) × ((k : ℕ) → from ≤ k → k < at → set k ≡ false))
    → IsTrue r ↔ ((k : ℕ) × (from ≤ k) × (k < end) × IsTrue (set k))
in_range from end set None r is none = (
  λ h. absurd (true≢false (sym h ∙ is)),
  λ (k, low, high, at). absurd (true≢false (sym at ∙ none k low high)),
)
in_range from end set (Some k) r is (low, high, at, before) = (λ _. (k, low, high, at), λ _. is)

-- one entry of the rows was written
pub written_sound : (d : DfaValue) (old new : Rows) (row column e : ℕ) → HasSameRows old new → new.entries.items ≡ slice_set old.entries.items (place_of d row column) e → new.begin ≡ old.begin → Indexed new → HasRoomForOne d new
    → row < length old.starts.items → column ≤ d.class_count → IsEntry d old row column e → IsSound d old → IsSound d new
written_sound d old new row column e is entries begin index room here short entry sound = record {
  dfa = sound.dfa;
  room = room;
  few = rw is.starts sound.few;
  small = let len = ap length entries ∙ length-set old.entries.items (place_of d row column) e in let before = sound.small in omega (arith, len, before);
  index = index;
  lists = rw (is.starts, is.lists) sound.lists;
  counts = rw (is.starts, is.lists) sound.counts;
  len = rw (is.starts, entries) (length-set old.entries.items (place_of d row column) e ∙ sound.len);
  known = λ i c lt hc some.
      let w = d.class_count in
      let n = length old.starts.items in
      let keeps = same_keeps old new is in
      let same : slice_index new.entries.items (place_of d i c) ≡ slice_index (slice_set old.entries.items (row * (w + 1) + column) e) (i * (w + 1) + c) = rw entries refl in
      let before : i < n = rw is.starts at lt in
      subst (IsEntry d new i c) (sym same) (entry_written d new old.entries.items w n row column e i c
      sound.len here short hc (entry_kept d old new row keeps here column e entry)
      (λ j x lj lx one. entry_kept d old new j keeps lj x (slice_index old.entries.items (j * (w + 1) + x)) (sound.known j x lj lx one)) before (subst (λ x. 0 < x) same some));
  begins = begins_kept d old new is begin sound.begins;
}

-- bytes of one class lead to the same ends

in_equivalent : (m : NfaValue) (list : List ℕ) (b c : ℕ) (y : List ℕ) (k : ℕ) → AreEquivalent m.states b c → AcceptsIn m list (b ∷ y) k → AcceptsIn m list (c ∷ y) k
in_equivalent m list b c y k same (t, at, h) = (t, at, accepts_equivalent m.states k b c y same t (b ∷ y) h refl)

same_class : (d : DfaValue) (b c : ℕ) → IsDfa d → b < 256 → c < 256 → slice_index d.class_of b ≡ slice_index d.class_of c → AreEquivalent d.run.states b c
same_class d b c is small small' class s =
    let first = (is.classes b small).1 s in
    let second = (is.classes c small').1 s in
    sym first ∙ ap (λ x. reads_byte (state d.run.states s) (slice_index is.representatives x)) class ∙ second

next_by : (d : DfaValue) (rows : Rows) (i b c e : ℕ) → AreEquivalent d.run.states c b → AreEquivalent d.run.states b c → IsNext d rows i b e → IsNext d rows i c e
next_by d rows i b c e there back is = record {
  dead = λ one y k a. is.dead one y k (in_equivalent d.run (states_of rows i) c b y k there a);
  row = λ some. let (j, at, goes) = is.row some in (j, at, λ y k. (λ a. (goes y k).0 (in_equivalent d.run (states_of rows i) c b y k there a), λ a. in_equivalent d.run (states_of rows i) b c y k back ((goes y k).1 a)));
}

-- what an entry says of one byte, it says of each of the class
pub entry_by : (d : DfaValue) (rows : Rows) (i b e marks : ℕ) → IsDfa d → b < 256 → 0 < e → e < marked → MarksAre d.run rows i marks → IsNext d rows i b e → IsEntry d rows i (slice_index d.class_of b) (e + marks)
entry_by d rows i b e marks dfa small some low are is = record {
  byte = λ c small' class.
      let next = next_by d rows i b c e (same_class d c b dfa small' small class) (same_class d b c dfa small small' (sym class)) is in
      by_marks c are next;
  end = λ column. absurd (let short = (dfa.classes b small).0 in omega (arith, short, column));
}
  where
    by_marks : (c : ℕ) → MarksAre d.run rows i marks → IsNext d rows i c e → IsEntryBy d rows i c (e + marks)
    by_marks c (inl (has, n)) next =
        let same : e ≡ e + marks - marked = omega arith in
        record {
          plain = λ less. absurd (omega (arith, less, n));
          marks = λ _. (has, omega (arith, n), subst (IsNext d rows i c) same next);
        }
    by_marks c (inr (none, n)) next =
        let same : e ≡ e + marks = omega arith in
        record {
          plain = λ _. (none, subst (IsNext d rows i c) same next);
          marks = λ more. absurd (omega (arith, more, n, low));
        }

-- marks, by the indexes of ends
pub marks_by_ends : (m : NfaValue) (rows : Rows) (i : ℕ) (ends : IndexSet) (o : Option ℕ) (marks : Bool) → marks ≡ is_some o → TellsFirstBelow (has_index ends) (half m) (half m + half m) o
    → HasEnds m rows i ends → IsTrue marks ↔ HasMarks m rows i
marks_by_ends m rows i ends o marks is first has =
    let h = half m in
    let some = in_range h (h + h) (has_index ends) o marks is first in (
      λ t. let (k, low, high, at) = some.0 t in let same : k ≡ h + (k - h) = omega arith in (k - h, omega arith, subst (AcceptsRow m rows i []) same ((has k high).0 at)),
      λ (k, lt, a). some.1 (h + k, omega arith, omega arith, (has (h + k) (omega arith)).1 a),
    )

pub marks_kept : (d : DfaValue) (old new : Rows) (i n : ℕ) → KeepsRows old new → i < length old.starts.items → MarksAre d.run old i n → MarksAre d.run new i n
marks_kept d old new i n keeps lt (inl (has, is)) = inl (marks_still d old new i keeps lt has, is)
marks_kept d old new i n keeps lt (inr (none, is)) = inr (λ h. none (marks_before d old new i keeps lt h), is)

-- whether something is added says whether the row has marks
pub marks_on : (m : NfaValue) (rows : Rows) (i n : ℕ) → MarksAre m rows i n → IsTrue (ltb 0 n) ↔ HasMarks m rows i
marks_on m rows i n (inl (has, is)) = (λ _. has, λ _. subst (λ x. IsTrue (ltb 0 x)) (sym is) refl)
marks_on m rows i n (inr (none, is)) = (λ on. absurd (true≢false (sym (subst (λ x. IsTrue (ltb 0 x)) is on))), λ h. absurd (none h))

-- an entry that is taken
pub next_is : (d : DfaValue) (rows : Rows) (i b e : ℕ) (o : Option ℕ) → LeadsTo e o → IsNext d rows i b e → MatchOption o (IsDeadBy d.run rows i b) (GoesTo d rows i b rows)
next_is d rows i b e None one is = is.dead one
next_is d rows i b e (Some p) (some, same) is = subst (GoesTo d rows i b rows) (sym same) (is.row some)

-- where an entry leads
pub known_is : (d : DfaValue) (rows : Rows) (i b e : ℕ) (step : Step) → IsEntryBy d rows i b e → (e < marked → IsFalse step.has_marks × LeadsTo e step.next)
    → (marked ≤ e → IsTrue step.has_marks × LeadsTo (e - marked) step.next) → IsStep d rows i b step rows
known_is d rows i b e step by plain marks = ⊎_elim {C = IsStep d rows i b step rows}
    (λ low.
    let (off, leads) = plain low in
    let (quiet, next) = by.plain low in
    record {
      next = next_is d rows i b e step.next leads next;
      marks = (λ on. absurd (true≢false (sym on ∙ off)), λ h. absurd (quiet h));
    })
    (λ high.
    let (on, leads) = marks high in
    let (has, some, next) = by.marks high in
    record {
      next = next_is d rows i b (e - marked) step.next leads next;
      marks = (λ _. has, λ _. on);
    })
    (cases_lt e marked)

-- the entry of a byte, and that of the end of the text
module _ (d : DfaValue) (rows : Rows) (i : ℕ) (sound : IsSound d rows) (lt : i < length rows.starts.items) where
  pub read_entry : (b e : ℕ) → b < 256 → e ≡ slice_index rows.entries.items (place_of d i (slice_index d.class_of b)) → 0 < e → IsEntryBy d rows i b e
  read_entry b e small is some =
      let short = (sound.dfa.classes b small).0 in
      let entry = sound.known i (slice_index d.class_of b) lt (omega (arith, short)) (omega (arith, is, some)) in
      subst (IsEntryBy d rows i b) (sym is) (entry.byte b small refl)

  pub read_end : (e : ℕ) → e ≡ slice_index rows.entries.items (place_of d i d.class_count) → 0 < e → IsEnd d.run rows i e
  read_end e is some = subst (IsEnd d.run rows i) (sym is) ((sound.known i d.class_count lt (omega arith) (omega (arith, is, some))).end refl)

pub keeps_then : (a b c : Rows) → KeepsRows a b → KeepsRows b c → KeepsRows a c
keeps_then a b c f g = record {
  more = (let h = f.more in let k = g.more in omega arith);
  states = λ i lt. g.states i (let h = f.more in omega arith) ∙ f.states i lt;
  lists = Lists.keeps_then a.lists.items b.lists.items c.lists.items f.lists g.lists;
}

-- a list of ends was appended, and its place written
pub record HasListed (d : DfaValue) (old new : Rows) (row : ℕ) (list : List ℕ) : Type 0 where
  pub lists : new.lists.items ≡ old.lists.items ++ length list ∷ list
  pub starts : new.starts.items ≡ old.starts.items
  pub entries : new.entries.items ≡ slice_set old.entries.items (place_of d row d.class_count) (length old.lists.items + 2)
  pub table : new.table.items ≡ old.table.items
  pub seed : new.seed ≡ old.seed
  pub begin : new.begin ≡ old.begin

module _ (d : DfaValue) (old new : Rows) (row : ℕ) (list : List ℕ) (is : HasListed d old new row list) (sound : IsSound d old) (here : row < length old.starts.items) where
  pub listed_keeps : KeepsRows old new
  listed_keeps = record {
    more = rw is.starts (omega arith);
    states = λ i lt. rw (is.lists, is.starts) ((keeps_lists old.lists.items (length list ∷ list)).1 (size d.run) (slice_index old.starts.items i) (sound.lists i lt)).1;
    lists = rw is.lists (keeps_lists old.lists.items (length list ∷ list));
  }

  pub listed_sound : AreBelow (half d.run + half d.run) list → ((k : ℕ) → IsTrue (has_number k list) ↔ ((k < half d.run + half d.run) × AcceptsRow d.run old row [] k))
      → ((k : ℕ) × (k < half d.run + half d.run) × AcceptsRow d.run old row [] k) → HasRoomForOne d new → IsSound d new
  listed_sound below has some room = record {
    dfa = sound.dfa;
    room = room;
    few = rw is.starts sound.few;
    small = let len = ap length is.entries ∙ length-set old.entries.items (place_of d row d.class_count) (length old.lists.items + 2) in let before = sound.small in omega (arith, len, before);
    index = rw (is.table, is.seed) (index_kept old.table.items old.seed old.starts.items new.starts.items old.lists.items new.lists.items (rw is.starts refl) listed_keeps.states sound.index);
    lists = λ i lt. let before : i < length old.starts.items = rw is.starts at lt in
        rw (is.lists, is.starts) ((keeps_lists old.lists.items (length list ∷ list)).1 (size d.run) (slice_index old.starts.items i) (sound.lists i before)).0;
    counts = λ i lt. let before : i < length old.starts.items = rw is.starts at lt in
        subst (λ l. length l ≤ size d.run) (sym (listed_keeps.states i before)) (sound.counts i before);
    len = rw (is.starts, is.entries) (length-set old.entries.items (place_of d row d.class_count) (length old.lists.items + 2) ∙ sound.len);
    known = λ i c lt hc known.
        let w = d.class_count in
        let n = length old.starts.items in
        let e = length old.lists.items + 2 in
        let same : slice_index new.entries.items (place_of d i c) ≡ slice_index (slice_set old.entries.items (row * (w + 1) + w) e) (i * (w + 1) + c) = rw is.entries refl in
        let before : i < n = rw is.starts at lt in
        let place : length old.lists.items ≡ e - 2 = omega arith in
        let listed : IsListOf new.lists.items (half d.run + half d.run) (e - 2) (AcceptsRow d.run old row []) =
        subst (λ p. IsListOf new.lists.items (half d.run + half d.run) p (AcceptsRow d.run old row [])) place (rw is.lists (list_last old.lists.items list (half d.run + half d.run) (AcceptsRow d.run old row []) below has)) in
        let entry : IsEntry d new row w e = record {
          byte = λ b small class. absurd (let short = (sound.dfa.classes b small).0 in omega (arith, short, class));
          end = λ _. record {
            none = λ one. absurd (omega (arith, one));
            some = λ _. let (k, small, a) = some in (k, small, (accepts_kept d.run old new row [] k (listed_keeps.states row here)).0 a);
            listed = λ _. list_of_iff new.lists.items (half d.run + half d.run) (e - 2) (AcceptsRow d.run old row []) (AcceptsRow d.run new row []) (λ k. accepts_kept d.run old new row [] k (listed_keeps.states row here)) listed;
          };
        } in
        subst (IsEntry d new i c) (sym same) (entry_written d new old.entries.items w n row w e i c sound.len here (omega arith) hc entry
        (λ j x lj lx one. entry_kept d old new j listed_keeps lj x (slice_index old.entries.items (j * (w + 1) + x)) (sound.known j x lj lx one)) before (subst (λ x. 0 < x) same known));
    begins = λ p at. begins_at_kept d old new p listed_keeps (sound.begins p (sym is.begin ∙ at));
  }

-- the list is empty
pub nothing_listed : (m : NfaValue) (list : List ℕ) → length list ≡ 0 → (y : List ℕ) (k : ℕ) → AcceptsIn m list y k → ⊥
nothing_listed m [] none y k (t, at, h) = true≢false (sym at)
nothing_listed m (x ∷ xs) none y k a = absurd (omega (arith, none))

-- an automaton with no states leads to no end
pub none_reached : (m : NfaValue) → size m ≡ 0 → (y : List ℕ) (k : ℕ) → IsReached m y k → ⊥
none_reached m none y k (s, begins, h) = let lt = accepts_within m.states k s y h in absurd (omega (arith, lt, none))

pub never_found : (m : NfaValue) → size m ≡ 0 → (y : List ℕ) (k : ℕ) → FindsBy (half m) (IsReached m) y k → ⊥
never_found m none y k (lt, found) = ⊎_elim {C = ⊥} (λ r. none_reached m none y k r) (λ (p, q, is, r). none_reached m none p (half m + k) r) found

-- there is one row at a place
pub one_row : (d : DfaValue) (rows : Rows) (i j p : ℕ) → IsAt d rows i p → IsAt d rows j p → i ≡ j
one_row d rows i j p (lt, is) (lt', is') = (same_place i 0 j 0 d.class_count (omega arith) (omega arith) (omega (arith, is, is'))).0

-- a number that stands in a list where one was written is that one, or stood there before
pub one_written : (list : List ℕ) (at value s x : ℕ) → at < length list → slice_index (slice_set list at value) s ≡ x → (value ≡ x) ⊎ (slice_index list s ≡ x)
one_written list at value s x room is = ⊎_elim {C = (value ≡ x) ⊎ (slice_index list s ≡ x)}
    (λ low. other (omega arith))
    (λ ge. ⊎_elim {C = (value ≡ x) ⊎ (slice_index list s ≡ x)} (λ high. other (omega arith)) (λ le. this (omega arith)) (cases_lt at s))
    (cases_lt s at)
  where
    other : s ≢ at → (value ≡ x) ⊎ (slice_index list s ≡ x)
    other ne = inr (sym (get_or-set_other list at s value 0 ne) ∙ is)

    this : s ≡ at → (value ≡ x) ⊎ (slice_index list s ≡ x)
    this same = inl (sym (ap (slice_index (slice_set list at value)) same ∙ get_or-set_same list at value 0 room) ∙ is)
