-- Rows: a place, and a set of states as a list.
use Rattle.std.specs.Prelude.{◌≡◌, ℕ, zero, suc, ◌+◌, ◌<◌, ◌≤◌, ◌⊎◌, ◌↔◌, List, [], ◌∷◌, ◌++◌, length, Contains, slice_get, slice_index, Some, None, IsTrue}
use Rattle.bit_sets.specs.Bytes.{has_byte}
use Rattle.bit_sets.specs.declared.byte_set.ByteSet.{ByteSet}
use Rattle.bit_sets.specs.Numbers.{has_number, AreBelow}
use Rattle.bit_sets.specs.Texts.{AllBytes}
use Rattle.byte_nfa.specs.Steps.{Accepts, NfaValue, IsReached}
use Rattle.byte_nfa.specs.Runs.{size}
use Rattle.byte_nfa.specs.Equivalent.{AreEquivalent}
use Rattle.glob_relations.specs.declared.domain.Domain.{Domain}
use Rattle.glob_relations.specs.declared.rows.SearchRow.{SearchRow}
use Rattle.glob_relations.specs.declared.rows.SearchRows.{SearchRows}
use Rattle.glob_relations.specs.declared.rows.Origin.{Origin}
use Rattle.glob_relations.specs.declared.search.Question.{Question}
use Rattle.glob_relations.specs.declared.search.SearchAnswer.{SearchAnswer}
use Rattle.glob_relations.specs.declared.search.SearchAnswer.TheVariants.{Found, Nothing, Limit}
use Rattle.glob_relations.specs.Shortest.{IsShortest}
use Rattle.glob_relations.specs.inner.Closed.{IsClosed, IsOpen}
use Rattle.glob_relations.specs.inner.Places.{kind_of, place_after, first_place, ends_in}

-- each of the first n indexes is reached, and the next is not
abbrev pub IsWantedBy : ℕ → (ℕ → Type 0) → Type 0
IsWantedBy n P = ((k : ℕ) → k < n → P k) × (P n → ⊥)

-- from some state of a list the text leads to an end of the index k
abbrev pub AcceptsIn : NfaValue → List ℕ → List ℕ → ℕ → Type 0
AcceptsIn m list y k = (t : ℕ) × IsTrue (has_number t list) × Accepts m.states k t y

-- a list of states, each once, from the highest to the lowest
abbrev pub AreStates : ℕ → List ℕ → Type 0
AreStates n list = AreBelow n list × ((i : ℕ) → i + 1 < length list → slice_index list (i + 1) < slice_index list i)

-- the index of the first rule of a question
abbrev pub first_rule : ℕ
first_rule = 2

-- from the row the text leads to a wanted end, and not below an ignored folder
abbrev pub WantsRow : NfaValue → Question → SearchRow → List ℕ → Type 0
WantsRow m n row y = IsTrue (ends_in (Some row.place) y) × IsWantedBy n.required (AcceptsIn m row.states.items y) × IsOpen n.ignores.items first_rule (AcceptsIn m row.states.items) y

-- from the start the text leads to a wanted end, and not below an ignored folder
abbrev pub WantsFrom : NfaValue → Question → List ℕ → Type 0
WantsFrom m n y = IsTrue (ends_in (Some (first_place n.domain)) y) × IsWantedBy n.required (IsReached m y) × IsOpen n.ignores.items first_rule (IsReached m) y

-- the byte is a `/`, and the row is that of an ignored folder
abbrev pub IsStopped : NfaValue → Question → SearchRow → ℕ → Type 0
IsStopped m n row b = (b ≡ 47) × IsClosed n.ignores.items first_rule (AcceptsIn m row.states.items [])

-- the row has the number i
abbrev pub HasRow : SearchRows → ℕ → SearchRow → Type 0
HasRow rows i row = slice_get rows.seen.keys i ≡ Some row

-- the origin of the row of the number i; the origin of the first row means nothing
abbrev pub HasOrigin : SearchRows → ℕ → Origin → Type 0
HasOrigin rows i origin = slice_get rows.origins.items i ≡ Some origin

-- the row of the number j is the first row, or came from the row of the number i or an earlier row
abbrev pub IsNext : SearchRows → ℕ → ℕ → Type 0
IsNext rows i j = (j ≡ 0) ⊎ ((origin : Origin) × HasOrigin rows j origin × (origin.row ≤ i))

-- the text leads to a wanted end from some row j for which `IsNext` holds
abbrev pub WantsNext : NfaValue → Question → SearchRows → ℕ → List ℕ → Type 0
WantsNext m n rows i y = (j : ℕ) × (r : SearchRow) × HasRow rows j r × IsNext rows i j × WantsRow m n r y

-- `depth` bytes led from the first row to the row of the number i
abbrev pub IsDeep : SearchRows → ℕ → ℕ → Type 0
IsDeep rows zero i = i ≡ 0
IsDeep rows (suc depth) i = (0 < i) × ((origin : Origin) × HasOrigin rows i origin × IsDeep rows depth origin.row)

-- each row except the first came from a row below the number
abbrev pub CameBefore : SearchRows → ℕ → Type 0
CameBefore rows number = (i : ℕ) (origin : Origin) → 0 < i → HasOrigin rows i origin → origin.row < number

-- paths begin in the row
abbrev pub IsFirstRow : NfaValue → Domain → SearchRow → Type 0
IsFirstRow m domain row = (row.place ≡ first_place domain) × ((y : List ℕ) (k : ℕ) → AcceptsIn m row.states.items y k ↔ IsReached m y k)

-- the byte leads from the row to the next
abbrev pub GoesTo : NfaValue → Question → SearchRow → ℕ → SearchRow → Type 0
GoesTo m n row b next = (place_after row.place b ≡ Some next.place) × ((y : List ℕ) (k : ℕ) → AcceptsIn m row.states.items (b ∷ y) k ↔ AcceptsIn m next.states.items y k) × (IsStopped m n row b → ⊥)

-- the byte leads to no row
abbrev pub GoesNowhere : NfaValue → Question → SearchRow → ℕ → Type 0
GoesNowhere m n row b = (place_after row.place b ≡ None) ⊎ IsStopped m n row b

-- the row came from a lower row by a byte
abbrev pub CameFrom : NfaValue → Question → SearchRows → ℕ → SearchRow → Origin → Type 0
CameFrom m n rows i row origin = (p : SearchRow) × (origin.row < i) × (origin.byte < 256) × HasRow rows origin.row p × GoesTo m n p origin.byte row

-- the invariant of the rows so far
pub record AreRows (m : NfaValue) (n : Question) (rows : SearchRows) : Type 0 where
  pub some : 0 < length rows.seen.keys
  pub len : length rows.origins.items ≡ length rows.seen.keys
  pub below : (i : ℕ) (row : SearchRow) → HasRow rows i row → AreStates (size m) row.states.items
  pub begins : (row : SearchRow) → HasRow rows 0 row → IsFirstRow m n.domain row
  pub came : (i : ℕ) (row : SearchRow) (origin : Origin) → 0 < i → HasRow rows i row → HasOrigin rows i origin → CameFrom m n rows i row origin
  pub order : (i j : ℕ) (o p : Origin) → 0 < i → i ≤ j → HasOrigin rows i o → HasOrigin rows j p → o.row ≤ p.row

-- some path leads to the row: what follows it decides from the row as it does after the path
abbrev pub IsLedTo : NfaValue → Domain → SearchRow → Type 0
IsLedTo m domain row = (y : List ℕ) × AllBytes y × ((z : List ℕ) → ends_in (Some row.place) z ≡ ends_in (Some (first_place domain)) (y ++ z))
    × ((z : List ℕ) (k : ℕ) → AcceptsIn m row.states.items z k ↔ IsReached m (y ++ z) k)

-- no two of the rows have the same place and the same states
abbrev pub AreDifferent : List SearchRow → Type 0
AreDifferent rows = (i j : ℕ) (r s : SearchRow) → i < j → slice_get rows i ≡ Some r → slice_get rows j ≡ Some s → r.place ≡ s.place → r.states.items ≡ s.states.items → ⊥

-- paths lead to more different rows than the limit
abbrev pub HasMoreRows : NfaValue → Domain → ℕ → Type 0
HasMoreRows m domain limit = (rows : List SearchRow) × (limit < length rows) × AreDifferent rows
    × ((i : ℕ) (row : SearchRow) → slice_get rows i ≡ Some row → AreStates (size m) row.states.items × IsLedTo m domain row)

-- each row is still there, with its origin
abbrev pub KeepsRows : SearchRows → SearchRows → Type 0
KeepsRows old new = ((i : ℕ) (row : SearchRow) → HasRow old i row → HasRow new i row) × ((i : ℕ) (origin : Origin) → HasOrigin old i origin → HasOrigin new i origin)

-- the row was there, or was added
abbrev pub AddsRow : SearchRows → SearchRows → SearchRow → Origin → Type 0
AddsRow old new row origin =
    ((new.seen.keys ≡ old.seen.keys) × (new.origins.items ≡ old.origins.items) × ((i : ℕ) × (r : SearchRow) × HasRow old i r × (r.place ≡ row.place) × (r.states.items ≡ row.states.items)))
    ⊎ ((new.seen.keys ≡ old.seen.keys ++ row ∷ []) × (new.origins.items ≡ old.origins.items ++ origin ∷ []))

-- each text that leads to a wanted end from the row of the number i after the byte does so from some row that `IsNext` allows
abbrev pub IsFollowedBy : NfaValue → Question → SearchRows → ℕ → ℕ → Type 0
IsFollowedBy m n rows i b = (row : SearchRow) → HasRow rows i row → (y : List ℕ) → WantsRow m n row (b ∷ y) → WantsNext m n rows i y

-- the same of each byte
abbrev pub IsFollowed : NfaValue → Question → SearchRows → ℕ → Type 0
IsFollowed m n rows i = (b : ℕ) → b < 256 → IsFollowedBy m n rows i b

-- the rows below a number are not wanted themselves, and followed
abbrev pub AreDone : NfaValue → Question → SearchRows → ℕ → Type 0
AreDone m n rows next = (i : ℕ) → i < next → IsFollowed m n rows i × ((row : SearchRow) → HasRow rows i row → WantsRow m n row [] → ⊥)

-- bytes that states read alike, and paths of domains
abbrev pub AreAlike : NfaValue → ℕ → ℕ → Type 0
AreAlike m b c = AreEquivalent m.states b c × (kind_of b ≡ kind_of c)

-- the byte is the first, or not like the byte before it
abbrev pub BeginsClass : ByteSet → ℕ → Type 0
BeginsClass boundaries b = (b ≡ 0) ⊎ ((c : ℕ) × (b ≡ c + 1) × IsTrue (has_byte boundaries c))

-- a byte that is not in the set is like the byte after it
abbrev pub AreBoundaries : NfaValue → ByteSet → Type 0
AreBoundaries m set = (b : ℕ) → b + 1 < 256 → (IsTrue (has_byte set b) → ⊥) → AreAlike m b (b + 1)

-- each byte is like some byte of the list
abbrev pub AreRepresentatives : NfaValue → List ℕ → Type 0
AreRepresentatives m bytes = (c : ℕ) → c < 256 → (b : ℕ) × Contains bytes b × AreAlike m b c

-- the text consists of bytes, and leads from the start to a wanted end, and not below an ignored folder
abbrev pub IsAskedText : NfaValue → Question → List ℕ → Type 0
IsAskedText m n y = AllBytes y × WantsFrom m n y

-- the same, where no folder is ignored
abbrev pub LeadsFrom : NfaValue → ℕ → Domain → List ℕ → Type 0
LeadsFrom m required domain y = IsTrue (ends_in (Some (first_place domain)) y) × IsWantedBy required (IsReached m y)

-- a text of bytes that leads so
abbrev pub IsWantedText : NfaValue → ℕ → Domain → List ℕ → Type 0
IsWantedText m required domain y = AllBytes y × LeadsFrom m required domain y

-- the answer of a search for texts that have a property: a shortest one, or that there is none, or that there are more rows than
-- the limit
abbrev pub TellsText : (List ℕ → Type 0) → NfaValue → Domain → ℕ → SearchAnswer → Type 0
TellsText P m domain limit (Found path) = IsShortest P path.items
TellsText P m domain limit Nothing = (y : List ℕ) → P y → ⊥
TellsText P m domain limit Limit = HasMoreRows m domain limit

-- the answer of a search for the texts of a question
abbrev pub TellsAsked : NfaValue → Question → ℕ → SearchAnswer → Type 0
TellsAsked m n limit answer = TellsText (IsAskedText m n) m n.domain limit answer

-- and where no folder is ignored
abbrev pub TellsSearch : NfaValue → ℕ → Domain → ℕ → SearchAnswer → Type 0
TellsSearch m required domain limit answer = TellsText (IsWantedText m required domain) m domain limit answer
