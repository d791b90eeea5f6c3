-- States that are added to an automaton, one after another.
use Rattle.std.proofs.Common.{◌≡◌, ℕ, ◌⊎◌, inl, inr, ◌≤◌, Bool, ◌==◌, ◌||◌, List, [], ◌∷◌, ◌++◌, length, refl, ◌∙◌, arith}
use Rattle.std.specs.Prelude.{◌↔◌, Result, IfOk}
use Rattle.std.proofs.Math.Logic.{⊎_elim}
use Rattle.std.specs.declared.alloc.AllocError.{AllocError}
use Rattle.std.proofs.lemmas.Result.{IfOk-weaker}
use Rattle.bit_sets.specs.Bytes.{IsSetOf}
use Rattle.bit_sets.specs.Texts.{ends_with, is_empty, is_one_byte}
use Rattle.bit_sets.specs.declared.byte_set.ByteSet.{ByteSet}
use Rattle.bit_sets.proofs.lemmas.Cuts.{both}
use Rattle.std.specs.List.{list_all}
use Rattle.byte_nfa.specs.Steps.{HasNumber, State, bytes_state, union_state, loop_state, NfaValue}
use Rattle.byte_nfa.specs.Building.{Agrees, Grows, Keeps, Pushes}
use Rattle.byte_nfa.specs.Leading.{is_any_byte, Builds}
use Rattle.byte_nfa.proofs.lemmas.Leading.{leads_read, leads_stay, leads_then, leads_up_to}

pub grows_none : (m : NfaValue) → Grows m m
grows_none m = record {
  keeps = (omega arith, λ s low high. refl);
  starts = refl;
  index_count = refl;
}

pub grows_then : (m n r : NfaValue) → Grows m n → Grows n r → Grows m r
grows_then m n r f g = record {
  keeps = (let p = f.keeps.0 in let q = g.keeps.0 in omega arith, λ s low high. (let p = f.keeps.0 in g.keeps.1 s low (omega arith)) ∙ f.keeps.1 s low high);
  starts = g.starts ∙ f.starts;
  index_count = g.index_count ∙ f.index_count;
}

pub grows_push : (m n : NfaValue) (s : ℕ) (st : State) → Pushes m n s st → Grows m n
grows_push m n s st p = record {
  keeps = p.keeps;
  starts = p.starts;
  index_count = p.index_count;
}

-- what agrees with the new states agrees with the old ones
pub agrees_old : (a old new : List State) (low : ℕ) → Keeps old new → Agrees a new low (length new) → Agrees a old low (length old)
agrees_old a old new low keeps agrees = λ s le lt. let more = keeps.0 in agrees s le (omega arith) ∙ keeps.1 s (omega arith) lt

pub agrees_higher : (a new : List State) (low high : ℕ) → low ≤ high → Agrees a new low (length new) → Agrees a new high (length new)
agrees_higher a new low high h agrees = λ s le lt. agrees s (omega arith) lt

-- ---- one more start

pub in_push : (t s : ℕ) (xs : List ℕ) → HasNumber t (xs ++ s ∷ []) ↔ (HasNumber t xs ⊎ (t ≡ s))
in_push t s [] = (λ h. ⊎_elim {C = ⊥ ⊎ (t ≡ s)} (λ is. inr is) (λ no. absurd no) h, λ h. ⊎_elim {C = (t ≡ s) ⊎ ⊥} (λ no. absurd no) (λ is. inl is) h)
in_push t s (x ∷ xs) = (
  λ h. ⊎_elim {C = ((t ≡ x) ⊎ HasNumber t xs) ⊎ (t ≡ s)}
      (λ here. inl (inl here))
      (λ later. ⊎_elim {C = ((t ≡ x) ⊎ HasNumber t xs) ⊎ (t ≡ s)} (λ earlier. inl (inr earlier)) (λ last. inr last) ((in_push t s xs).0 later)) h,
  λ h. ⊎_elim {C = (t ≡ x) ⊎ HasNumber t (xs ++ s ∷ [])}
      (λ front. ⊎_elim {C = (t ≡ x) ⊎ HasNumber t (xs ++ s ∷ [])} (λ here. inl here) (λ earlier. inr ((in_push t s xs).1 (inl earlier))) front)
      (λ last. inr ((in_push t s xs).1 (inr last))) h,
)

-- ---- bytes

pub read_built : (test : ℕ → Bool) (old new : NfaValue) (w : ByteSet) (s e : ℕ) → IsSetOf test w → Pushes old new s (bytes_state w e) → Builds (is_one_byte test) old.states new.states s e
read_built test old new w s e set p = λ a agrees. leads_read a s e test (w, p.adds a (length old.states) (omega arith) agrees, set)

pub stay_built : (test : ℕ → Bool) (old new : NfaValue) (w : ByteSet) (s e : ℕ) → IsSetOf test w → Pushes old new s (loop_state w (e ∷ [])) → Builds (list_all test) old.states new.states s e
stay_built test old new w s e set p = λ a agrees. leads_stay a s e test (w, p.adds a (length old.states) (omega arith) agrees, set)

-- what is built stays built, and so does what is built later
pub builds_then : (P Q : List ℕ → Bool) (old mid new : NfaValue) (s t e : ℕ) → Grows old mid → Grows mid new → Builds Q old.states mid.states t e → Builds P mid.states new.states s t
    → Builds (both P Q) old.states new.states s e
builds_then P Q old mid new s t e before after later first = λ a agrees.
    leads_then a s t e P Q (first a (agrees_higher a new.states (length old.states) (length mid.states) before.keeps.0 agrees))
    (later a (agrees_old a mid.states new.states (length old.states) after.keeps agrees))

-- nothing, or bytes that end with c
up_to_built : (c : ℕ) (old ended stayed new : NfaValue) (v w : ByteSet) (u t s e : ℕ) → IsSetOf (λ d. d == c) v → IsSetOf is_any_byte w → Pushes old ended u (bytes_state v e)
    → Pushes ended stayed t (loop_state w (u ∷ [])) → Pushes stayed new s (union_state (e ∷ t ∷ [])) → Builds (λ y. is_empty y || ends_with c y) old.states new.states s e
up_to_built c old ended stayed new v w u t s e one every p q r = λ a agrees.
    let low = length old.states in
    let agrees2 : Agrees a stayed.states low (length stayed.states) = agrees_old a stayed.states new.states low r.keeps agrees in
    let agrees1 : Agrees a ended.states low (length ended.states) = agrees_old a ended.states stayed.states low q.keeps agrees2 in
    leads_up_to a s t u e c (r.adds a low (omega (arith, p.len, q.len)) agrees) (w, q.adds a low (omega (arith, p.len)) agrees2, every) (v, p.adds a low (omega arith) agrees1, one)

pub ok_up_to : (c : ℕ) (old ended stayed new : NfaValue) (v w : ByteSet) (u t e : ℕ) (r : Result ℕ AllocError) → IsSetOf (λ d. d == c) v → IsSetOf is_any_byte w → Pushes old ended u (bytes_state v e)
    → Pushes ended stayed t (loop_state w (u ∷ [])) → IfOk r (λ s. Pushes stayed new s (union_state (e ∷ t ∷ []))) → IfOk r (λ s. Builds (λ y. is_empty y || ends_with c y) old.states new.states s e)
ok_up_to c old ended stayed new v w u t e r one every p q last =
    IfOk-weaker r (λ s. Pushes stayed new s (union_state (e ∷ t ∷ []))) (λ s. Builds (λ y. is_empty y || ends_with c y) old.states new.states s e)
    (λ s x. up_to_built c old ended stayed new v w u t s e one every p q x) last
