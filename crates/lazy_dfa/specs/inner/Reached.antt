-- Where a text leads, by the rows of a cache.
use Rattle.std.specs.Prelude.{ℕ, ◌≤◌, ◌⊎◌, ◌↔◌, List, ◌++◌, drop, length, IsTrue}
use Rattle.bit_sets.specs.Indexes.{has_index}
use Rattle.bit_sets.specs.declared.index_set.IndexSet.{IndexSet}
use Rattle.byte_nfa.specs.Steps.{IsReached}
use Rattle.lazy_dfa.specs.DfaValue.{DfaValue}
use Rattle.byte_nfa.specs.EarlyMatches.{half, FindsBy}
use Rattle.lazy_dfa.specs.declared.rows.Rows.{Rows}
use Rattle.lazy_dfa.specs.declared.run.Left.{Left}
use Rattle.lazy_dfa.specs.declared.run.Reached.{Reached}
use Rattle.lazy_dfa.specs.declared.run.Reached.TheVariants.{Decided, Nothing, Row}
use Rattle.lazy_dfa.specs.inner.Rows.{IsAt, AcceptsRow}

-- With every text after this text: some index is found, or no index is, or the found indexes are those that the row at the place
-- leads to by the added text.
abbrev pub IsWhereBy : DfaValue → Rows → (List ℕ → ℕ → Type 0) → List ℕ → Reached → Type 0
IsWhereBy d rows P text Decided = (z : List ℕ) → (k : ℕ) × FindsBy (half d.run) P (text ++ z) k
IsWhereBy d rows P text Nothing = (z : List ℕ) (k : ℕ) → FindsBy (half d.run) P (text ++ z) k → ⊥
IsWhereBy d rows P text (Row p) = (i : ℕ) × IsAt d rows i p × ((z : List ℕ) (k : ℕ) → FindsBy (half d.run) (AcceptsRow d.run rows i) z k ↔ FindsBy (half d.run) P (text ++ z) k)

-- from where a run begins
abbrev pub IsWhere : DfaValue → Rows → List ℕ → Reached → Type 0
IsWhere d rows = IsWhereBy d rows (IsReached d.run)

-- from the row of number i
abbrev pub IsWhereFrom : DfaValue → Rows → ℕ → List ℕ → Reached → Type 0
IsWhereFrom d rows i = IsWhereBy d rows (AcceptsRow d.run rows i)

-- the bytes that were read lead from the row of number i of the old rows to the row at the place of the new rows
pub record HasRead (d : DfaValue) (old : Rows) (i : ℕ) (text : List ℕ) (new : Rows) (left : Left) : Type 0 where
  pub within : left.at ≤ length text
  pub row : (j : ℕ) × IsAt d new j left.place × ((z : List ℕ) (k : ℕ) → FindsBy (half d.run) (AcceptsRow d.run new j) (drop left.at text ++ z) k ↔ FindsBy (half d.run) (AcceptsRow d.run old i) (text ++ z) k)

-- The indexes found in the text from the row of number i of the old rows, together with the old set, are the indexes found in the
-- rest from the row at the place of the new rows, together with the new set.
pub record IsLeft (d : DfaValue) (old : Rows) (i : ℕ) (text : List ℕ) (had : IndexSet) (new : Rows) (has : IndexSet) (left : Left) : Type 0 where
  pub within : left.at ≤ length text
  pub row : (j : ℕ) × IsAt d new j left.place × ((k : ℕ) → (FindsBy (half d.run) (AcceptsRow d.run new j) (drop left.at text) k ⊎ IsTrue (has_index has k)) ↔ (FindsBy (half d.run) (AcceptsRow d.run old i) text k ⊎ IsTrue (has_index had k)))
