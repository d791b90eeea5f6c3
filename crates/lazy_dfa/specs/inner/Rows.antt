-- The rows of a cache.
use Rattle.std.specs.Prelude.{◌≡◌, ℕ, ◌+◌, ◌-◌, ◌*◌, ◌<◌, ◌≤◌, ◌⊎◌, ◌↔◌, List, [], ◌∷◌, Option, Some, length, slice_index, vec_capacity, IsTrue, MatchOption}
use Rattle.bit_sets.specs.declared.index_set.IndexSet.{IndexSet}
use Rattle.bit_sets.specs.Indexes.{has_index, index_capacity}
use Rattle.bit_sets.specs.StateSets.{state_capacity}
use Rattle.byte_nfa.specs.Steps.{NfaValue, IsReached}
use Rattle.byte_nfa.specs.Runs.{size, AcceptsIn}
use Rattle.byte_nfa.specs.EarlyMatches.{half, FindsBy}
use Rattle.lazy_dfa.specs.DfaValue.{DfaValue}
use Rattle.lazy_dfa.specs.inner.Dfa.{IsDfa}
use Rattle.lazy_dfa.specs.inner.Index.{IsFree, IsIndexed}
use Rattle.lazy_dfa.specs.inner.Hashes.{list_hash}
use Rattle.lazy_dfa.specs.inner.Lists.{list_at, IsList, IsListOf, KeepsLists}
use Rattle.lazy_dfa.specs.declared.pass.Pass.{Pass}
use Rattle.lazy_dfa.specs.declared.rows.Rows.{Rows}
use Rattle.lazy_dfa.specs.declared.rows.Step.{Step}

-- the states of the row of number i
abbrev pub states_of : Rows → ℕ → List ℕ
states_of rows i = list_at rows.lists.items (slice_index rows.starts.items i)

-- the list of states of each row is there
abbrev pub AreListed : Rows → Type 0
AreListed rows = (i : ℕ) → i < length rows.starts.items → slice_index rows.starts.items i + 1 + slice_index rows.lists.items (slice_index rows.starts.items i) ≤ length rows.lists.items

-- from some state of the row of number i the text leads to an end of the index k
abbrev pub AcceptsRow : NfaValue → Rows → ℕ → List ℕ → ℕ → Type 0
AcceptsRow m rows i = AcceptsIn m (states_of rows i)

-- the row leads without a byte to an end that says that an index is decided
abbrev pub HasMarks : NfaValue → Rows → ℕ → Type 0
HasMarks m rows i = (k : ℕ) × (k < half m) × AcceptsRow m rows i [] (half m + k)

-- the entries of the row of number i begin at the place p
abbrev pub IsAt : DfaValue → Rows → ℕ → ℕ → Type 0
IsAt d rows i p = (i < length rows.starts.items) × (p ≡ i * (d.class_count + 1))

-- at the place p is a row from which each text leads to the ends that the fact says
abbrev pub IsRowOf : DfaValue → (List ℕ → ℕ → Type 0) → Rows → ℕ → Type 0
IsRowOf d P rows p = (j : ℕ) × IsAt d rows j p × ((y : List ℕ) (k : ℕ) → P y k ↔ AcceptsRow d.run rows j y k)

-- the byte leads from the row of number i of the old rows to the row at the place p of the new rows
abbrev pub GoesTo : DfaValue → Rows → ℕ → ℕ → Rows → ℕ → Type 0
GoesTo d old i b = IsRowOf d (λ y. AcceptsRow d.run old i (b ∷ y))

-- the byte leads from the row to no end
abbrev pub IsDeadBy : NfaValue → Rows → ℕ → ℕ → Type 0
IsDeadBy m rows i b = (y : List ℕ) (k : ℕ) → AcceptsRow m rows i (b ∷ y) k → ⊥

-- the set has the indexes of the ends to which the row leads without a byte
abbrev pub HasEnds : NfaValue → Rows → ℕ → IndexSet → Type 0
HasEnds m rows i ends = (k : ℕ) → k < half m + half m → IsTrue (has_index ends k) ↔ AcceptsRow m rows i [] k

-- from here on entries are of rows with marks
abbrev pub marked : ℕ
marked = 2147483648

-- where a run begins: at the place p is a row that leads to the same ends as the automaton
abbrev pub BeginsAt : DfaValue → Rows → ℕ → Type 0
BeginsAt d rows p = (j : ℕ) × IsAt d rows j p × ((y : List ℕ) (k : ℕ) → AcceptsRow d.run rows j y k ↔ IsReached d.run y k)

-- Where a byte leads from the row of number i of the old rows: to no end, or to a row of the new rows. It also says whether the
-- left row has marks.
pub record IsStep (d : DfaValue) (old : Rows) (i b : ℕ) (step : Step) (new : Rows) : Type 0 where
  pub next : MatchOption step.next (IsDeadBy d.run old i b) (GoesTo d old i b new)
  pub marks : IsTrue step.has_marks ↔ HasMarks d.run old i

-- the row of number i has no marks, and the byte leads from it to the row at the place p
abbrev pub IsPlainStep : DfaValue → Rows → ℕ → ℕ → ℕ → Type 0
IsPlainStep d rows i b p = (HasMarks d.run rows i → ⊥) × GoesTo d rows i b rows p

-- the set has the indexes of the marks of the row of number i
abbrev pub HasTold : NfaValue → Rows → ℕ → IndexSet → Type 0
HasTold m rows i found = (k : ℕ) → k < half m → AcceptsRow m rows i [] (half m + k) → IsTrue (has_index found k)

-- the new set has the indexes of the marks of the row of number i, in addition to the old set
abbrev pub AddsMarks : NfaValue → Rows → ℕ → IndexSet → IndexSet → Type 0
AddsMarks m rows i old new = (k : ℕ) → IsTrue (has_index new k) ↔ (((k < half m) × AcceptsRow m rows i [] (half m + k)) ⊎ IsTrue (has_index old k))

-- where a byte leads from the row of number i, and the new set has the indexes of the row's marks, in addition to the old set
pub record IsToldStep (d : DfaValue) (rows : Rows) (i b : ℕ) (old new : IndexSet) (step : Step) : Type 0 where
  pub known : IsStep d rows i b step rows
  pub told : AddsMarks d.run rows i old new

-- the number that is added to the entries of a row
abbrev pub MarksAre : NfaValue → Rows → ℕ → ℕ → Type 0
MarksAre m rows i n = (HasMarks m rows i × (n ≡ marked)) ⊎ ((HasMarks m rows i → ⊥) × (n ≡ 0))

-- where an entry without marks leads
abbrev pub LeadsTo : ℕ → Option ℕ → Type 0
LeadsTo e next = MatchOption next (e ≡ 1) (λ p. (1 < e) × (p ≡ e - 2))

-- what an entry without marks says of a byte: it is 1 where nothing follows, and otherwise 2 more than the place of a row
pub record IsNext (d : DfaValue) (rows : Rows) (i b e : ℕ) : Type 0 where
  pub dead : e ≡ 1 → IsDeadBy d.run rows i b
  pub row : 1 < e → GoesTo d rows i b rows (e - 2)

-- what an entry says of a byte
pub record IsEntryBy (d : DfaValue) (rows : Rows) (i b e : ℕ) : Type 0 where
  pub plain : e < marked → (HasMarks d.run rows i → ⊥) × IsNext d rows i b e
  pub marks : marked ≤ e → HasMarks d.run rows i × (0 < e - marked) × IsNext d rows i b (e - marked)

-- The meaning of the entry for the end of the text. It is 1 where the row leads to no end without a byte. Otherwise it is 2 more
-- than the place of the list of the indexes of these ends.
pub record IsEnd (m : NfaValue) (rows : Rows) (i e : ℕ) : Type 0 where
  pub none : e ≡ 1 → (k : ℕ) → k < half m + half m → AcceptsRow m rows i [] k → ⊥
  pub some : 1 < e → (k : ℕ) × (k < half m + half m) × AcceptsRow m rows i [] k
  pub listed : 1 < e → IsListOf rows.lists.items (half m + half m) (e - 2) (AcceptsRow m rows i [])

-- what an entry says, if it is known: of each byte of a class; or behind the classes of the end of the text
pub record IsEntry (d : DfaValue) (rows : Rows) (i c e : ℕ) : Type 0 where
  pub byte : (b : ℕ) → b < 256 → slice_index d.class_of b ≡ c → IsEntryBy d rows i b e
  pub end : c ≡ d.class_count → IsEnd d.run rows i e

-- the bound on the number of rows, and of entries
abbrev pub max_entries : ℕ
max_entries = 2147483646

-- there is memory for a pass over all states
pub record HasRoomFor (m : NfaValue) (pass : Pass) : Type 0 where
  pub from : size m ≤ state_capacity pass.from
  pub next : size m ≤ state_capacity pass.next
  pub ends : m.index_count ≤ index_capacity pass.ends
  pub list : size m ≤ vec_capacity pass.list

-- there is room for a row of any states
pub record HasRoomForOne (d : DfaValue) (rows : Rows) : Type 0 where
  pub lists : size d.run < vec_capacity rows.lists
  pub starts : 0 < vec_capacity rows.starts
  pub entries : d.class_count < vec_capacity rows.entries

-- the place of an entry
abbrev pub place_of : DfaValue → ℕ → ℕ → ℕ
place_of d i c = i * (d.class_count + 1) + c

-- the rows are right, as far as they are known
pub record IsSound (d : DfaValue) (rows : Rows) : Type 0 where
  pub dfa : IsDfa d
  pub room : HasRoomForOne d rows
  pub few : length rows.starts.items ≤ max_entries
  pub small : length rows.entries.items ≤ max_entries
  pub index : IsIndexed rows.table.items rows.seed rows.starts.items rows.lists.items
  pub lists : (i : ℕ) → i < length rows.starts.items → IsList rows.lists.items (size d.run) (slice_index rows.starts.items i)
  pub counts : (i : ℕ) → i < length rows.starts.items → length (states_of rows i) ≤ size d.run
  pub len : length rows.entries.items ≡ length rows.starts.items * (d.class_count + 1)
  pub known : (i c : ℕ) → i < length rows.starts.items → c ≤ d.class_count → 0 < slice_index rows.entries.items (place_of d i c)
      → IsEntry d rows i c (slice_index rows.entries.items (place_of d i c))
  pub begins : (p : ℕ) → rows.begin ≡ Some p → BeginsAt d rows p

-- each row is still there, with the same states, and each list stands where it stood
pub record KeepsRows (old new : Rows) : Type 0 where
  pub more : length old.starts.items ≤ length new.starts.items
  pub states : (i : ℕ) → i < length old.starts.items → states_of new i ≡ states_of old i
  pub lists : KeepsLists old.lists.items new.lists.items

-- the rows with the table of others
abbrev pub with_table_of : Rows → Rows → Rows
with_table_of rows others = record {
  starts = rows.starts;
  lists = rows.lists;
  entries = rows.entries;
  table = others.table;
  seed = rows.seed;
  begin = rows.begin;
}

-- no row has the states of the list
abbrev pub HasNoRow : Rows → List ℕ → Type 0
HasNoRow rows list = (i : ℕ) → i < length rows.starts.items → states_of rows i ≡ list → ⊥

-- there is room for a row of the states in the list, and its number has a place in the table
pub record HasSpace (d : DfaValue) (rows : Rows) (list : List ℕ) (place : ℕ) : Type 0 where
  pub free : IsFree rows.table.items (list_hash rows.seed list) place
  pub lists : length rows.lists.items + length list < vec_capacity rows.lists
  pub places : length rows.lists.items < 4294967296
  pub starts : length rows.starts.items < vec_capacity rows.starts
  pub few : length rows.starts.items < max_entries
  pub small : length rows.entries.items + d.class_count < max_entries
  pub entries : length rows.entries.items + d.class_count < vec_capacity rows.entries

-- the new set has the indexes found in the text from the row of number i, in addition to the old set
abbrev pub AddsFound : NfaValue → Rows → ℕ → List ℕ → IndexSet → IndexSet → Type 0
AddsFound m rows i text old new = (k : ℕ) → IsTrue (has_index new k) ↔ (FindsBy (half m) (AcceptsRow m rows i) text k ⊎ IsTrue (has_index old k))
