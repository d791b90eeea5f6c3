-- The indexes of ends, in a list.
use Rattle.std.proofs.Common.{◌≡◌, ℕ, ◌+◌, ◌<◌, ◌≤◌, inl, inr, List, [], length, IsTrue, subst, arith}
use Rattle.bit_sets.specs.Indexes.{has_index}
use Rattle.bit_sets.specs.Numbers.{has_number}
use Rattle.bit_sets.specs.declared.index_set.IndexSet.{IndexSet}
use Rattle.byte_nfa.specs.Runs.{size}
use Rattle.byte_nfa.specs.Steps.{NfaValue, state, match_state, Accepts, ends, by_byte, by_skip, by_out, by_stay}
use Rattle.byte_nfa.proofs.lemmas.Pass.{accepts_within}
use Rattle.byte_nfa.specs.EarlyMatches.{half, FindsBy}
use Rattle.lazy_dfa.specs.declared.rows.Rows.{Rows}
use Rattle.lazy_dfa.specs.inner.Rows.{AcceptsRow}
use Rattle.bit_sets.specs.Indexes.{AreFound}
use Rattle.byte_nfa.specs.inner.Sources.{ListsEnds}
use Rattle.byte_nfa.proofs.lemmas.After.{number_place}

-- a text leads to a state that is an end
end_of : (m : NfaValue) (k s : ℕ) (y : List ℕ) → Accepts m.states k s y → (t : ℕ) × (t < size m) × (state m.states t ≡ match_state k)
end_of m k s y (ends s' e) = (s', accepts_within m.states k s' [] (ends s' e), e)
end_of m k s y (by_byte s' t c z w e has rest) = end_of m k t z rest
end_of m k s y (by_skip s' t z ts e at rest) = end_of m k t z rest
end_of m k s y (by_out s' t z w ts e at rest) = end_of m k t z rest
end_of m k s y (by_stay s' c z w ts e has rest) = end_of m k s z rest

-- what is found from a row is listed
pub found_listed : (m : NfaValue) (rows : Rows) (i : ℕ) (list : List ℕ) → ListsEnds m list → (y : List ℕ) (k : ℕ) → FindsBy (half m) (AcceptsRow m rows i) y k → IsTrue (has_number k list)
found_listed m rows i list lists y k (low, inl (s, at, a)) = let (t, lt, is) = end_of m k s y a in lists t k lt low (inl is)
found_listed m rows i list lists y k (low, inr (p, q, e, (s, at, a))) = let (t, lt, is) = end_of m (half m + k) s p a in lists t k lt low (inr is)

-- where all that are listed are found, nothing else is
pub all_found : (list : List ℕ) (count : ℕ) (found : IndexSet) → AreFound list count found → length list ≤ count → (k : ℕ) → IsTrue (has_number k list) → IsTrue (has_index found k)
all_found list count found are all k at = let (j, lt, is) = number_place k list at in subst (λ n. IsTrue (has_index found n)) is (are j (omega (arith, lt, all)) lt)
