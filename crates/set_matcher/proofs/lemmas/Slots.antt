-- Automata and their caches, by slots.
use Rattle.std.proofs.Common.{◌≡◌, ℕ, zero, suc, ◌+◌, ◌<◌, List, [], ◌∷◌, ◌++◌, length, Option, Some, None, get_or, refl, ap, sym, subst, ◌∙◌, arith}
use Rattle.std.specs.Prelude.{IfSome, slice_index_or}
use Rattle.std.specs.Option.{option_map_or}
use Rattle.byte_nfa.specs.Steps.{NfaValue}
use Rattle.glob_strategy.specs.IndexedTokens.{IndexedTokens, IsFor}
use Rattle.glob_strategy.proofs.lemmas.IndexedTokens.{none_for}
use Rattle.set_matcher.specs.inner.Automata.{AutomataParts, AreFor, nfa_at, nfa_under, no_nfa, slot_of, tokens_under}
use Rattle.engine.specs.Memory.{MemoryValue}
use Rattle.set_matcher.specs.inner.Memory.{FitsAll, in_slots}

-- the automaton of an extension's slot is that of the extension
pub nfa_by_slot : {a b : AutomataParts} {slot : Option ℕ} (extension : List ℕ) → a ≡ b → slot ≡ slot_of b.extensions.slots extension
    → nfa_at a.extensions.nfas slot ≡ nfa_under b.extensions extension
nfa_by_slot {b = b} {slot = slot} extension view at = ap (λ (x : AutomataParts). nfa_at x.extensions.nfas slot) view ∙ ap (nfa_at b.extensions.nfas) at

-- and it is for the extension's tokens
pub tokens_by_slot : {a b : AutomataParts} (slot : Option ℕ) (extension : List ℕ) (tokens : ℕ → List IndexedTokens) → a ≡ b
    → ((s : ℕ) → slot ≡ Some s → s < length b.extensions.nfas) → slot ≡ slot_of b.extensions.slots extension
    → AreFor b.extensions.nfas tokens → IsFor (nfa_at a.extensions.nfas slot) (tokens_under tokens b.extensions.slots extension)
tokens_by_slot {b = b} slot extension tokens view held at are =
    subst (λ (x : AutomataParts). IsFor (nfa_at x.extensions.nfas slot) (tokens_under tokens b.extensions.slots extension)) (sym view)
    (subst (λ o. IsFor (nfa_at b.extensions.nfas slot) (option_map_or tokens o [])) at (of_slot slot held))
  where
    of_slot : (o : Option ℕ) → ((s : ℕ) → o ≡ Some s → s < length b.extensions.nfas) → IsFor (nfa_at b.extensions.nfas o) (option_map_or tokens o [])
    of_slot None within = none_for (no_nfa 0) refl
    of_slot (Some s) within = are s (no_nfa 0) (within s refl)

-- one cache more
pub cache_push : (nfa : ℕ → NfaValue) (caches : List (Option NfaValue)) (cache : Option NfaValue)
    → ((s : ℕ) → IfSome (slice_index_or caches s None) (λ c. c ≡ nfa s)) → IfSome cache (λ c. c ≡ nfa (length caches))
    → (s : ℕ) → IfSome (slice_index_or (caches ++ cache ∷ []) s None) (λ c. c ≡ nfa s)
cache_push nfa [] cache are this zero = this
cache_push nfa [] cache are this (suc s) = tt
cache_push nfa (c ∷ cs) cache are this zero = are zero
cache_push nfa (c ∷ cs) cache are this (suc s) = cache_push (λ i. nfa (suc i)) cs cache (λ i. are (suc i)) this s

-- the slots of extensions are those after two
pub slot_at : (a : AutomataParts) (i : ℕ) → get_or (in_slots a) (i + 2) (no_nfa 0) ≡ get_or a.extensions.nfas i (no_nfa 0)
slot_at a i =
    let two_more : i + 2 ≡ suc (suc i) = omega arith in
    ap (λ (n : ℕ). get_or (in_slots a) n (no_nfa 0)) two_more

-- the first two slots
pub two_slots : (a : AutomataParts) (old one two : MemoryValue) (by_path by_component : Option NfaValue) → old.caches ≡ []
    → one.caches ≡ old.caches ++ by_path ∷ [] → two.caches ≡ one.caches ++ by_component ∷ []
    → IfSome by_path (λ c. c ≡ a.by_path) → IfSome by_component (λ c. c ≡ a.by_component) → FitsAll a two
two_slots a old one two by_path by_component none first second of_path of_component s =
    subst (λ (caches : List (Option NfaValue)). IfSome (slice_index_or caches s None) (λ c. c ≡ nfa s)) (sym are)
    (cache_push nfa (by_path ∷ []) by_component (cache_push nfa [] by_path (λ i. tt) of_path) of_component s)
  where
    nfa : ℕ → NfaValue
    nfa n = get_or (in_slots a) n (no_nfa 0)

    are : two.caches ≡ by_path ∷ by_component ∷ []
    are = second ∙ ap (λ (caches : List (Option NfaValue)). caches ++ by_component ∷ []) (first ∙ ap (λ (caches : List (Option NfaValue)). caches ++ by_path ∷ []) none)

-- a slot more, of the automaton of an extension
pub slot_pushed : (a : AutomataParts) (old new : MemoryValue) (i : ℕ) (cache : Option NfaValue) → length old.caches ≡ i + 2 → new.caches ≡ old.caches ++ cache ∷ []
    → IfSome cache (λ c. c ≡ get_or a.extensions.nfas i (no_nfa 0)) → FitsAll a old → FitsAll a new
slot_pushed a old new i cache len pushed this fits s =
    subst (λ (caches : List (Option NfaValue)). IfSome (slice_index_or caches s None) (λ c. c ≡ nfa s)) (sym pushed)
    (cache_push nfa old.caches cache fits (subst (λ (m : NfaValue). IfSome cache (λ c. c ≡ m)) (sym (ap nfa len ∙ slot_at a i)) this) s)
  where
    nfa : ℕ → NfaValue
    nfa n = get_or (in_slots a) n (no_nfa 0)
