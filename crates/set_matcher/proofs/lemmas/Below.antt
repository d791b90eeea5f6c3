-- What is found for a folder, by keys and by automata.
use Rattle.std.proofs.Common.{ℕ, ◌+◌, ◌*◌, ◌<◌, ◌≤◌, ◌⊎◌, inl, inr, Bool, true, List, [], ◌∷◌, get_or, length, IsTrue, refl, arith}
use Rattle.std.specs.Prelude.{◌↔◌}
use Rattle.std.proofs.Math.Logic.{⊎_elim}
use Rattle.std.proofs.lemmas.List.Sums.{sum_by-append}
use Rattle.std.proofs.lemmas.Nat.{mul-le}
use Rattle.byte_nfa.specs.Live.{MatchesAfter}
use Rattle.byte_nfa.specs.Runs.{max_reads}
use Rattle.byte_nfa.specs.Steps.{NfaValue}
use Rattle.bit_sets.specs.Texts.{AllBytes}
use Rattle.glob_strategy.specs.IndexedTokens.{IndexedTokens, SomeMeanAfter}
use Rattle.glob_strategy.proofs.lemmas.IndexedTokens.{after_matches}
use Rattle.set_matcher.specs.inner.KeysBelow.{MatchesBelow}
use Rattle.set_matcher.specs.inner.TokenGlobs.{TokenGlob, SomeReportedBelow}
use Rattle.set_matcher.specs.Visits.{visits_below_for}
use Rattle.set_matcher.specs.inner.Automata.{AreFor, AreFoundBelow, SomeExtensionAfter, SomeLeadsAfter, max_size, no_nfa, total_reads}
use Rattle.set_matcher.specs.inner.SetMatcher.{SetMatcherParts, IsSetMatcherOf}

-- ---- automata

-- the automaton of some slot leads to an end just if its tokens match
pub slots_after : (nfas : List NfaValue) (tokens : ℕ → List IndexedTokens) (y : List ℕ) → AreFor nfas tokens → AllBytes y → SomeLeadsAfter nfas y ↔ SomeExtensionAfter (length nfas) tokens y
slots_after nfas tokens y are bytes =
    let same : (s : ℕ) → s < length nfas → MatchesAfter (get_or nfas s (no_nfa 0)) y ↔ SomeMeanAfter (tokens s) y = λ s lt. after_matches (get_or nfas s (no_nfa 0)) (tokens s) y (are s (no_nfa 0) lt) bytes in (
      λ (s, lt, h). (s, lt, (same s lt).0 h),
      λ (s, lt, h). (s, lt, (same s lt).1 h),
    )

-- the last of three tells, if the others say no
pub last_of_three : {Yes A B C : Type 0} → (A → ⊥) → (B → ⊥) → Yes ↔ C → Yes ↔ (A ⊎ (B ⊎ C))
last_of_three {Yes} {A} {B} {C} no_a no_b last = (
  λ yes. inr (inr (last.0 yes)),
  λ h. ⊎_elim {C = Yes} (λ a. absurd (no_a a)) (λ later. ⊎_elim {C = Yes} (λ b. absurd (no_b b)) (λ c. last.1 c) later) h,
)

-- the largest automaton has at most the reads of all
pub max_within : (ms : List NfaValue) → max_size ms ≤ total_reads ms
max_within [] = omega arith
max_within (m ∷ ms) = let rest = max_within ms in let sum = sum_by-append max_reads (m ∷ []) ms in omega (arith, rest, sum)

-- ---- keys and automata

pub below_by_key : (globs : List TokenGlob) (g : SetMatcherParts) (folder : List ℕ) → IsSetMatcherOf globs g → AllBytes folder → MatchesBelow g.keys folder → IsTrue true ↔ SomeReportedBelow globs folder
below_by_key globs g folder are bytes key = (λ t. (are.below folder bytes).0 (inl key), λ h. refl)

pub below_by_automata : (globs : List TokenGlob) (g : SetMatcherParts) (folder : List ℕ) (r : Bool) (are : IsSetMatcherOf globs g) → AllBytes folder → (MatchesBelow g.keys folder → ⊥)
    → (IsTrue r ↔ AreFoundBelow g.automata.extensions are.tokens folder) → IsTrue r ↔ SomeReportedBelow globs folder
below_by_automata globs g folder r are bytes off same = (
  λ yes. (are.below folder bytes).0 (inr (same.0 yes)),
  λ h. ⊎_elim {C = IsTrue r} (λ key. absurd (off key)) (λ found. same.1 found) ((are.below folder bytes).1 h),
)

-- their visits
pub below_visits : (n reads load now v w : ℕ) → reads ≤ load → v ≤ now + (n + 2) → w ≤ v + (n + 2) * reads → w ≤ now + visits_below_for n load
below_visits n reads load now v w le keys run = let more = mul-le (n + 2) reads (n + 2) load (omega arith) le in omega (arith, keys, run, more)
