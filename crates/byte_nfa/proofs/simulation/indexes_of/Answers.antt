use Rattle.std.proofs.Common.{◌≡◌, ℕ, ◌+◌, ◌/◌, ◌<◌, ◌⊎◌, ◌||◌, true, IsTrue, List, ◌∷◌, [], ◌++◌, ap, ◌∙◌, subst, arith}
use Rattle.std.specs.Prelude.{◌==◌}
use Rattle.std.proofs.lemmas.Bool.{cases_lt, eq-eqb, or_left, or_right}
use Rattle.std.proofs.lemmas.List.Filters.{dedup_is}
use Rattle.std.proofs.lemmas.List.Kept.{Contains-dedup_nat}
use Rattle.std.proofs.lemmas.List.Sorted.{Contains-permutation}
use Rattle.std.proofs.Math.Logic.{⊎_elim}
use Rattle.bit_sets.specs.Numbers.{has_number}
use Rattle.bit_sets.proofs.lemmas.Lists.{listed_push}
use Rattle.byte_nfa.specs.EarlyMatches.{half}
use Rattle.byte_nfa.specs.Steps.{State, state, match_state}
use Rattle.byte_nfa.proofs.lemmas.Listing.{contains_in, in_contains}
use Rattle.byte_nfa.proofs.lemmas.Pass.{listed_in, in_listed}
use Rattle.byte_nfa.proofs.simulation.indexes_of.Goals as goal
use Rattle.byte_nfa.proofs.simulation.indexes_of.Goals.{in-Some+in_ok-push, in_default}

-- the state tells k, of 2 h indexes
abbrev Tells : List State → ℕ → ℕ → ℕ → Type 0
Tells a h s k = (state a s ≡ match_state k) ⊎ (state a s ≡ match_state (h + k))

-- what the states below n tell is in the list
abbrev AreTold : List State → ℕ → ℕ → List ℕ → Type 0
AreTold a h n list = (s k : ℕ) → s < n → k < h → Tells a h s k → IsTrue (has_number k list)

pushed : (a : List State) (h n x : ℕ) (list : List ℕ) → ((k : ℕ) → k < h → Tells a h n k → k ≡ x) → AreTold a h n list → AreTold a h (n + 1) (list ++ x ∷ [])
pushed a h n x list here before s k lt small tells = listed_push k x list ∙ ⊎_elim {C = (has_number k list || (k == x)) ≡ true}
    (λ low. or_left (has_number k list) (k == x) (before s k low small tells))
    (λ high. or_right (has_number k list) (k == x) (eq-eqb k x (here k small (let same : s ≡ n = omega arith in subst (λ t. Tells a h t k) same tells))))
    (cases_lt s n)

passed : (a : List State) (h n : ℕ) (list : List ℕ) → ((k : ℕ) → k < h → Tells a h n k → ⊥) → AreTold a h n list → AreTold a h (n + 1) list
passed a h n list none before s k lt small tells = ⊎_elim {C = IsTrue (has_number k list)}
    (λ low. before s k low small tells)
    (λ high. absurd (none k small (let same : s ≡ n = omega arith in subst (λ t. Tells a h t k) same tells)))
    (cases_lt s n)

pub loop-s-preserved : goal.loop-s-preserved
loop-s-preserved c =
    let a = c.args.automaton.now.states in
    let h = c.index_count-half.result / 2 in
    let n = c.loop-s.s in
    let list = c.loop-s.indexes.items in
    elim c.match-told_at.branch [
      | in-Some+in_ok-push w ↦ rw w.indexes-is (rw w.in_ok-push.ensures.items (pushed a h n w.in-Some.index list (λ k small tells. let told = c.told_at.ensures k small tells in let is = w.in-Some.is in cc) c.loop-s.invariant))
      | in_default w ↦ rw w.indexes-is (passed a h n list (λ k small tells. let told = c.told_at.ensures k small tells in let is = w.in_default.is in cc) c.loop-s.invariant)
    ]

pub returns : goal.returns
returns c = λ s k small low tells.
    let a = c.args.automaton.now.states in
    let same : c.index_count-half.result / 2 ≡ half c.args.automaton.now = ap (λ n. n / 2) c.index_count-half.ensures in
    let told = (rw same at c.loop-s.invariant) s k (omega (arith, small, c.state_count-s-end.ensures, c.loop-s-test.false)) low tells in
    let sorted = Contains-permutation _ _ k c.sort_unstable.ensures.permutation (in_contains k _ (listed_in k _ told)) in
    rw (dedup_is _ _ _ c.dedup.ensures.filtered) (in_listed k _ (contains_in k _ (Contains-dedup_nat _ k sorted)))
