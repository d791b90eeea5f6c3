-- Where a text leads, in two parts.
use Rattle.std.proofs.Common.{◌≡◌, ℕ, ◌+◌, ◌*◌, ◌<◌, ◌≤◌, inr, Bool, true≢false, List, [], ◌∷◌, ◌++◌, Some, None, IsTrue, ap, subst, arith, ◌∙◌, ◌⊎◌}
use Rattle.std.proofs.lemmas.Nat.{mul-le}
use Rattle.bit_sets.specs.Texts.{AllBytes}
use Rattle.std.specs.Prelude.{◌↔◌, Option, IfSome, MatchOption, is_some}
use Rattle.std.proofs.Math.Bool.{not}
use Rattle.bit_sets.specs.Indexes.{has_index}
use Rattle.bit_sets.specs.declared.index_set.IndexSet.{IndexSet}
use Rattle.byte_nfa.proofs.lemmas.Pass.{iff_trans}
use Rattle.byte_nfa.specs.Steps.{NfaValue, IsReached}
use Rattle.byte_nfa.specs.Live.{MatchesAfter}
use Rattle.byte_nfa.specs.Runs.{size}
use Rattle.byte_nfa.proofs.lemmas.Running.{found_for, after_for}
use Rattle.lazy_dfa.specs.DfaValue.{DfaValue}
use Rattle.byte_nfa.specs.EarlyMatches.{half, FindsBy}
use Rattle.lazy_dfa.specs.declared.rows.Rows.{Rows}
use Rattle.lazy_dfa.specs.declared.run.Left.{Left}
use Rattle.lazy_dfa.specs.declared.run.Reached.{Reached}
use Rattle.lazy_dfa.specs.declared.run.Reached.TheVariants.{Decided, Nothing, Row}
use Rattle.lazy_dfa.specs.inner.Dfa.{IsDfa}
use Rattle.lazy_dfa.specs.inner.Reached.{IsLeft, IsWhereBy}
use Rattle.lazy_dfa.specs.inner.Rows.{AcceptsRow, AddsFound}
use Rattle.byte_nfa.proofs.lemmas.Finding.{iff_beside, finds_same}

-- where the rest leads, the whole text leads
pub read_on : (d : DfaValue) (rows : Rows) (P Q : List ℕ → ℕ → Type 0) (rest text : List ℕ) (r : Reached)
    → ((z : List ℕ) (k : ℕ) → FindsBy (half d.run) P (rest ++ z) k ↔ FindsBy (half d.run) Q (text ++ z) k) → IsWhereBy d rows P rest r → IsWhereBy d rows Q text r
read_on d rows P Q rest text Decided same is = λ z. let (k, f) = is z in (k, (same z k).0 f)
read_on d rows P Q rest text Nothing same is = λ z k f. is z k ((same z k).1 f)
read_on d rows P Q rest text (Row p) same (i, at, finds) = (i, at, λ z k. iff_trans (finds z k) (same z k))

module _ (d : DfaValue) (rows : Rows) (j : ℕ) (text : List ℕ) (old new : IndexSet) where
  -- nothing was left
  pub finds_some : (left : Option Left) (none : Bool) → MatchOption left (AddsFound d.run rows j text old new) (IsLeft d rows j text old rows new) → is_some left ≡ not none → IsTrue none → AddsFound d.run rows j text old new
  finds_some None none adds is on = adds
  finds_some (Some left) none is some on = absurd (true≢false (some ∙ ap not on))

  -- what was found before a run was left
  pub found_before : (left : Option Left) → ((y : List ℕ) (k : ℕ) → AcceptsRow d.run rows j y k ↔ IsReached d.run y k)
      → MatchOption left (AddsFound d.run rows j text old new) (IsLeft d rows j text old rows new) → (k : ℕ) → IsTrue (has_index new k) → FindsBy (half d.run) (IsReached d.run) text k ⊎ IsTrue (has_index old k)
  found_before None begins adds k h = (iff_beside (finds_same (half d.run) (AcceptsRow d.run rows j) (IsReached d.run) begins text k)).0 ((adds k).0 h)
  found_before (Some left) begins is k h = let (i, at, finds) = is.row in (iff_beside (finds_same (half d.run) (AcceptsRow d.run rows j) (IsReached d.run) begins text k)).0 ((finds k).0 (inr h))

-- an answer, if there is one, by the same facts
pub answer_same : {P Q : Type 0} (answer : Option Bool) → P ↔ Q → IfSome answer (λ yes. IsTrue yes ↔ P) → IfSome answer (λ yes. IsTrue yes ↔ Q)
answer_same None same is = is
answer_same (Some b) same is = iff_trans is same

-- the automaton that is run finds what the other one leads to, and has no more states
module _ (d : DfaValue) (m : NfaValue) (dfa : IsDfa d) (is : d.nfa ≡ m) where
  pub reads_as : (text : List ℕ) → AllBytes text → (k : ℕ) → FindsBy (half d.run) (IsReached d.run) text k ↔ IsReached m text k
  reads_as text bytes k = subst (λ (x : NfaValue). FindsBy (half d.run) (IsReached d.run) text k ↔ IsReached x text k) is (found_for d.nfa d.run dfa.runs text bytes k)

  pub goes_on_as : (text : List ℕ) (byte : ℕ) → AllBytes text → byte < 256
      → ((k : ℕ) × (y : List ℕ) × AllBytes y × FindsBy (half d.run) (IsReached d.run) (text ++ byte ∷ y) k) ↔ MatchesAfter m (text ++ byte ∷ [])
  goes_on_as text byte bytes small = subst (λ (x : NfaValue). ((k : ℕ) × (y : List ℕ) × AllBytes y × FindsBy (half d.run) (IsReached d.run) (text ++ byte ∷ y) k) ↔ MatchesAfter x (text ++ byte ∷ [])) is
      (after_for d.nfa d.run dfa.runs text byte bytes small)

  pub bound_as : (n : ℕ) → n * (size d.run + 1) ≤ n * (size m + 1)
  bound_as n = mul-le n (size d.run + 1) n (size m + 1) (omega arith) (let no_more = subst (λ (x : NfaValue). size d.run ≤ size x) is (omega (arith, dfa.runs.early.len, dfa.runs.shares.states)) in omega (arith, no_more))
