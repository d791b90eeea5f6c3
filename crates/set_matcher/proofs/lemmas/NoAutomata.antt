-- Sets that keep automata only if some glob needs one.
use Rattle.std.proofs.Common.{◌≡◌, ◌<◌, ℕ, List, [], Option, Some, None, slice_index, ap, sym, subst, refl, arith, ◌∙◌}
use Rattle.std.proofs.Math.Logic.{⊎_elim}
use Rattle.std.specs.Global.{Box}
use Rattle.bit_sets.specs.Texts.{AllBytes}
use Rattle.byte_nfa.specs.Live.{MatchesAfter}
use Rattle.glob_path.specs.Below.{folder_start}
use Rattle.glob_path.specs.PathParts.{last_component}
use Rattle.glob_strategy.proofs.lemmas.IndexedTokens.{after_matches, start_bytes}
use Rattle.set_matcher.specs.inner.Automata.{AreForLists, AreFoundBelow, AreIdle, AutomataParts, TokenLists, automata_or_none, no_automata, no_nfa}
use Rattle.set_matcher.proofs.lemmas.Automata.{component_bytes, no_matches}

-- the automata that are kept
pub kept_is : (n : ℕ) {automata : Option (Box AutomataParts)} {b : Box AutomataParts} {a : AutomataParts} → automata ≡ Some b → a ≡ b.value → automata_or_none n automata ≡ a
kept_is n is at = ap (automata_or_none n) is ∙ sym at

-- ---- where none are kept

idle : (n : ℕ) (path : List ℕ) → AllBytes path → AreIdle (no_automata n) path
idle n path bytes = record {
  size = refl;
  none = λ t are k found. ⊎_elim {C = ⊥} (λ by_path. no_matches (no_nfa n) t.by_path path k refl are.path bytes by_path)
      (λ later. ⊎_elim {C = ⊥} (λ by_component. no_matches (no_nfa n) t.by_component (last_component path) k refl are.component (component_bytes path bytes) by_component) (λ none. none) later) found;
}

-- nothing is found for a path
pub none_idle : {automata : Option (Box AutomataParts)} (n : ℕ) (path : List ℕ) → automata ≡ None → AllBytes path → AreIdle (automata_or_none n automata) path
none_idle n path is bytes = subst (λ a. AreIdle a path) (sym (ap (automata_or_none n) is)) (idle n path bytes)

no_text : (n : ℕ) (y : List ℕ) → MatchesAfter (no_nfa n) y → ⊥
no_text n y (k, rest, bytes, (s, at, accepts)) = at

-- nothing is found below a folder
pub none_below : {automata : Option (Box AutomataParts)} (n : ℕ) (folder : List ℕ) (t : TokenLists) → automata ≡ None → ((i : ℕ) → slice_index folder i < 256) → AreForLists (automata_or_none n automata) t
    → AreFoundBelow (automata_or_none n automata).extensions t folder → ⊥
none_below {automata = automata} n folder t is bytes = subst (λ a. AreForLists a t → AreFoundBelow a.extensions t folder → ⊥) (sym (ap (automata_or_none n) is)) none
  where
    none : AreForLists (no_automata n) t → AreFoundBelow (no_automata n).extensions t folder → ⊥
    none are found = ⊎_elim {C = ⊥} (λ by_component. no_text n [] ((after_matches (no_nfa n) t.by_component [] are.component tt).1 by_component))
        (λ later. ⊎_elim {C = ⊥} (λ by_path. no_text n (folder_start folder) ((after_matches (no_nfa n) t.by_path (folder_start folder) are.path (start_bytes folder bytes)).1 by_path))
        (λ slot. absurd (omega (arith, slot.1))) later) found
