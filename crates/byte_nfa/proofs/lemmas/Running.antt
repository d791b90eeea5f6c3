-- What is found by the automaton that is run for another.
use Rattle.std.proofs.Common.{◌≡◌, ℕ, ◌<◌, List, [], ◌∷◌, ◌++◌, length, arith}
use Rattle.std.specs.Prelude.{◌↔◌}
use Rattle.bit_sets.specs.Texts.{AllBytes}
use Rattle.byte_nfa.specs.Live.{MatchesAfter}
use Rattle.byte_nfa.specs.Steps.{NfaValue, HasNumber, IsReached}
use Rattle.byte_nfa.proofs.lemmas.Pass.{iff_trans}
use Rattle.byte_nfa.specs.EarlyMatches.{FindsBy, half}
use Rattle.byte_nfa.specs.inner.Sources.{RunsFor}
use Rattle.byte_nfa.proofs.lemmas.After.{after_is}
use Rattle.byte_nfa.proofs.lemmas.Finding.{found_is}

module _ (source run : NfaValue) (runs : RunsFor source run) where
  -- what a text leads to
  pub found_for : (y : List ℕ) → AllBytes y → (k : ℕ) → FindsBy (half run) (IsReached run) y k ↔ IsReached source y k
  found_for y bytes k = iff_trans (found_is runs.sharing run runs.early y bytes k) (runs.shares.reached y k)

  -- what texts lead to that begin so
  pub after_for : (text : List ℕ) (byte : ℕ) → AllBytes text → byte < 256
      → ((k : ℕ) × (y : List ℕ) × AllBytes y × FindsBy (half run) (IsReached run) (text ++ byte ∷ y) k) ↔ MatchesAfter source (text ++ byte ∷ [])
  after_for text byte bytes small = iff_trans (after_is runs.sharing run runs.early text byte bytes small) (
    λ (k, rest, all, at). (k, rest, all, (runs.shares.reached ((text ++ byte ∷ []) ++ rest) k).0 at),
    λ (k, rest, all, at). (k, rest, all, (runs.shares.reached ((text ++ byte ∷ []) ++ rest) k).1 at),
  )

  -- nothing is found without a start
  pub none_without_starts : length run.starts ≡ 0 → (y : List ℕ) (k : ℕ) → IsReached source y k → ⊥
  none_without_starts empty y k at = let (s, begins, _) = (runs.shares.reached y k).1 at in no_number runs.sharing.starts none s begins
    where
      none : length runs.sharing.starts ≡ 0
      none = let same = runs.early.starts in cc

      no_number : (xs : List ℕ) → length xs ≡ 0 → (s : ℕ) → HasNumber s xs → ⊥
      no_number [] e s h = h
      no_number (x ∷ xs) e s h = omega (arith, e)
