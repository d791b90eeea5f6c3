-- Memories before and after calls.
use Rattle.std.proofs.Common.{◌≡◌, ◌≤◌, ◌∙◌, ℕ, List, [], Option, None, refl, sym, subst, arith}
use Rattle.std.specs.Prelude.{IfSome, slice_index_or}
use Rattle.byte_nfa.specs.Steps.{NfaValue}
use Rattle.engine.specs.Memory.{Fits, FitsAsBefore, MemoryValue}

-- a memory without slots fits each automaton
pub fits_any : (memory : MemoryValue) (slot : ℕ) (m : NfaValue) → memory.caches ≡ [] → Fits memory slot m
fits_any memory slot m none = subst (λ (caches : List (Option NfaValue)). IfSome (slice_index_or caches slot None) (λ c. c ≡ m)) (sym none) tt

-- what fits before a call, fits after it
pub fits_still : {old new : MemoryValue} (slot : ℕ) (m : NfaValue) → FitsAsBefore old new → Fits old slot m → Fits new slot m
fits_still slot m kept fits = subst (λ (caches : List (Option NfaValue)). IfSome (slice_index_or caches slot None) (λ c. c ≡ m)) (sym kept.caches) fits

-- two calls one after the other
pub kept_twice : {old mid new : MemoryValue} → FitsAsBefore old mid → FitsAsBefore mid new → FitsAsBefore old new
kept_twice one two = record {
  caches = two.caches ∙ one.caches;
  room = omega (arith, one.room, two.room);
}
