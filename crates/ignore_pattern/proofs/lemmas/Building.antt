-- The states of elements.
use Rattle.std.proofs.Common.{ℕ, Bool, List, [], ◌∷◌, refl}
use Rattle.std.specs.Prelude.{Result, IfOk}
use Rattle.std.specs.declared.alloc.AllocError.{AllocError}
use Rattle.std.proofs.lemmas.Result.{IfOk-weaker}
use Rattle.bit_sets.specs.declared.byte_set.ByteSet.{ByteSet}
use Rattle.byte_nfa.specs.Steps.{bytes_state, loop_state, NfaValue}
use Rattle.byte_nfa.specs.Building.{Grows, Pushes}
use Rattle.ignore_pattern.specs.Elements.{Element, Everything, element_matches, elements_match}
use Rattle.bit_sets.specs.Texts.{is_one_byte}
use Rattle.std.specs.List.{list_all}
use Rattle.byte_nfa.specs.Leading.{Builds, is_any_byte}
use Rattle.bit_sets.specs.Bytes.{IsSetOf}
use Rattle.byte_nfa.proofs.lemmas.Growing.{builds_then, read_built, stay_built}
use Rattle.byte_nfa.proofs.lemmas.Leading.{any_all, leads_iff, leads_none}

-- ---- elements

everything_built : (ignore_case : Bool) (old new : NfaValue) (w : ByteSet) (s e : ℕ) → IsSetOf is_any_byte w → Pushes old new s (loop_state w (e ∷ []))
    → Builds (element_matches ignore_case Everything) old.states new.states s e
everything_built ignore_case old new w s e set p = λ a agrees.
    leads_iff a s e (list_all is_any_byte) (element_matches ignore_case Everything) (λ y. (λ h. refl, λ h. any_all y)) (stay_built is_any_byte old new w s e set p a agrees)

-- ---- what a push returns

pub ok_read : (test : ℕ → Bool) (old new : NfaValue) (w : ByteSet) (e : ℕ) (r : Result ℕ AllocError) → IsSetOf test w → IfOk r (λ s. Pushes old new s (bytes_state w e))
    → IfOk r (λ s. Builds (is_one_byte test) old.states new.states s e)
ok_read test old new w e r set p = IfOk-weaker r (λ s. Pushes old new s (bytes_state w e)) (λ s. Builds (is_one_byte test) old.states new.states s e) (λ s q. read_built test old new w s e set q) p

pub ok_stay : (test : ℕ → Bool) (old new : NfaValue) (w : ByteSet) (e : ℕ) (r : Result ℕ AllocError) → IsSetOf test w → IfOk r (λ s. Pushes old new s (loop_state w (e ∷ [])))
    → IfOk r (λ s. Builds (list_all test) old.states new.states s e)
ok_stay test old new w e r set p = IfOk-weaker r (λ s. Pushes old new s (loop_state w (e ∷ []))) (λ s. Builds (list_all test) old.states new.states s e) (λ s q. stay_built test old new w s e set q) p

pub ok_everything : (ignore_case : Bool) (old new : NfaValue) (w : ByteSet) (e : ℕ) (r : Result ℕ AllocError) → IsSetOf is_any_byte w → IfOk r (λ s. Pushes old new s (loop_state w (e ∷ [])))
    → IfOk r (λ s. Builds (element_matches ignore_case Everything) old.states new.states s e)
ok_everything ignore_case old new w e r set p =
    IfOk-weaker r (λ s. Pushes old new s (loop_state w (e ∷ []))) (λ s. Builds (element_matches ignore_case Everything) old.states new.states s e) (λ s q. everything_built ignore_case old new w s e set q) p

-- ---- one after another

pub elements_none : (ignore_case : Bool) (m : NfaValue) (s : ℕ) → Builds (elements_match ignore_case []) m.states m.states s s
unfolding elements_match
elements_none ignore_case m s = λ a agrees. leads_none a s

pub elements_more : (ignore_case : Bool) (e : Element) (es : List Element) (old mid new : NfaValue) (s t exit : ℕ) → Grows old mid → Grows mid new
    → Builds (elements_match ignore_case es) old.states mid.states t exit → Builds (element_matches ignore_case e) mid.states new.states s t
    → Builds (elements_match ignore_case (e ∷ es)) old.states new.states s exit
unfolding elements_match
elements_more ignore_case e es old mid new s t exit before after later first =
    builds_then (element_matches ignore_case e) (elements_match ignore_case es) old mid new s t exit before after later first
