-- What is below the folders that a pattern matches.
use Rattle.std.proofs.Common.{◌≡◌, ℕ, inl, inr, ◌⊎◌, Bool, ◌&&◌, List, [], ◌∷◌, ◌++◌, length, IsTrue, refl, ap, sym, ◌∙◌, subst, arith}
use Rattle.std.specs.Prelude.{◌<◌, ◌↔◌, ◌==◌, Result, IfOk}
use Rattle.std.specs.List.{list_all}
use Rattle.std.specs.declared.alloc.AllocError.{AllocError}
use Rattle.std.proofs.lemmas.Bool.{eqb-true}
use Rattle.std.proofs.lemmas.List.{append-nil}
use Rattle.std.proofs.lemmas.Result.{IfOk-weaker}
use Rattle.std.proofs.Math.Logic.{⊎_elim}
use Rattle.bit_sets.specs.Texts.{AllBytes, is_one_byte}
use Rattle.bit_sets.specs.declared.byte_set.ByteSet.{ByteSet}
use Rattle.byte_nfa.specs.Steps.{State, state, bytes_state, loop_state, match_state, union_state, Accepts, ends, by_skip, NfaValue}
use Rattle.byte_nfa.specs.Building.{Agrees, Pushes, Grows}
use Rattle.ignore_pattern.specs.Automata.{above_index}
use Rattle.ignore_pattern.specs.inner.States.{IsBelow, BuildsBelow, HasBelow}
use Rattle.byte_nfa.specs.Leading.{Leads, Reads, Stays, is_any_byte}
use Rattle.bit_sets.specs.Bytes.{IsSetOf}
use Rattle.bit_sets.proofs.lemmas.Booleans.{and_first}
use Rattle.bit_sets.proofs.lemmas.Cuts.{both, cut_of, one_of, some_cut-append}
use Rattle.byte_nfa.proofs.lemmas.Leading.{accepted, any_all, final_goes, leads_read, leads_stay, leads_then, skips_goes}
use Rattle.bit_sets.proofs.lemmas.Texts.{right_of}
use Rattle.byte_nfa.proofs.lemmas.Growing.{agrees_old, agrees_higher}

-- ---- `/` and whatever follows

abbrev is_slash : ℕ → Bool
is_slash c = c == 47

slash_first : (w : List ℕ) → IsTrue (both (is_one_byte is_slash) (list_all is_any_byte) w) ↔ ((rest : List ℕ) × (w ≡ 47 ∷ rest))
slash_first w = (
  λ some. let (x, z, cut, pq) = cut_of (λ front back. is_one_byte is_slash front && list_all is_any_byte back) w some in
      let (c, single, has) = one_of is_slash x (and_first (is_one_byte is_slash x) (list_all is_any_byte z) pq) in
      (z, cut ∙ ap (λ l. l ++ z) (single ∙ ap (λ u. u ∷ []) (eqb-true c 47 has))),
  λ (rest, is). subst (λ l. IsTrue (both (is_one_byte is_slash) (list_all is_any_byte) l)) (sym is)
      (some_cut-append (λ front back. is_one_byte is_slash front && list_all is_any_byte back) (47 ∷ []) rest (any_all rest)),
)

below_is : (a : List State) (b t e f : ℕ) → Reads a b is_slash t → Stays a t is_any_byte e → state a e ≡ match_state f → IsBelow a b f
below_is a b t e f reads stays is k w bytes =
    let one = accepted a (both (is_one_byte is_slash) (list_all is_any_byte)) b e f k w bytes
    (leads_then a b t e (is_one_byte is_slash) (list_all is_any_byte) (leads_read a b t is_slash reads) (leads_stay a t e is_any_byte stays)) is in (
      λ h. let (same, all) = one.0 h in let (rest, at) = (slash_first w).0 all in (same, rest, at),
      λ (same, rest, at). one.1 (same, (slash_first w).1 (rest, at)),
    )

below_built : (old ended stayed new : NfaValue) (v w : ByteSet) (f e t b : ℕ) → IsSetOf is_slash v → IsSetOf is_any_byte w → Pushes old ended e (match_state f)
    → Pushes ended stayed t (loop_state w (e ∷ [])) → Pushes stayed new b (bytes_state v t) → BuildsBelow f old.states new.states b
below_built old ended stayed new v w f e t b slash every p q r = λ a agrees.
    let low = length old.states in
    let agrees2 : Agrees a stayed.states low (length stayed.states) = agrees_old a stayed.states new.states low r.keeps agrees in
    let agrees1 : Agrees a ended.states low (length ended.states) = agrees_old a ended.states stayed.states low q.keeps agrees2 in
    below_is a b t e f (v, r.adds a low (omega (arith, p.len, q.len)) agrees, slash) (w, q.adds a low (omega (arith, p.len)) agrees2, every) (p.adds a low (omega arith) agrees1)

pub ok_below : (old ended stayed new : NfaValue) (v w : ByteSet) (f e t : ℕ) (r : Result ℕ AllocError) → IsSetOf is_slash v → IsSetOf is_any_byte w → Pushes old ended e (match_state f)
    → Pushes ended stayed t (loop_state w (e ∷ [])) → IfOk r (λ b. Pushes stayed new b (bytes_state v t)) → IfOk r (λ b. BuildsBelow f old.states new.states b)
ok_below old ended stayed new v w f e t r slash every p q last =
    IfOk-weaker r (λ b. Pushes stayed new b (bytes_state v t)) (λ b. BuildsBelow f old.states new.states b) (λ b x. below_built old ended stayed new v w f e t b slash every p q x) last

pub has_below : (m n : NfaValue) (b f : ℕ) → BuildsBelow f m.states n.states b → b < length n.states → HasBelow n b f
has_below m n b f builds within = record {
  within = within;
  is_below = λ a agrees. builds a (agrees_higher a n.states 0 (length m.states) (omega arith) agrees);
}

pub keeps_below : (m n : NfaValue) (b f : ℕ) → Grows m n → HasBelow m b f → HasBelow n b f
keeps_below m n b f grows h = record {
  within = (let more = grows.keeps.0 in let low = h.within in omega arith);
  is_below = λ a agrees. h.is_below a (agrees_old a m.states n.states 0 grows.keeps agrees);
}

-- the same states with other starts
pub same_states : (m n : NfaValue) (b f : ℕ) → m.states ≡ n.states → HasBelow m b f → HasBelow n b f
same_states m n b f same h = record {
  within = subst (λ l. b < length l) same h.within;
  is_below = λ a agrees. h.is_below a (subst (λ l. Agrees a l 0 (length l)) (sym same) agrees);
}

-- the state that a pattern's own choice gives
pub exit_below : (m : NfaValue) (b x n : ℕ) (negated v : Bool) → b ≡ x → negated ≡ v → HasBelow m x (above_index n v) → HasBelow m b (above_index n negated)
exit_below m b x n negated v same is h = subst (λ c. HasBelow m c (above_index n negated)) (sym same) (subst (λ u. HasBelow m x (above_index n u)) (sym is) h)

-- ---- an end, or `/` and whatever follows

-- bytes that lead to both are accepted for the index of the end, and what is below them for the other index
pub accepted_or_below : (a : List State) (test : List ℕ → Bool) (s u e b j f k : ℕ) (path : List ℕ) → AllBytes path → Leads a s test u → state a u ≡ union_state (e ∷ b ∷ []) → state a e ≡ match_state j
    → IsBelow a b f → Accepts a k s path ↔ (((j ≡ k) × IsTrue (test path)) ⊎ ((f ≡ k) × (folder rest : List ℕ) × (path ≡ folder ++ 47 ∷ rest) × IsTrue (test folder)))
accepted_or_below a test s u e b j f k path bytes leads union is below = (there, back)
  where
    Either : Type 0
    Either = ((j ≡ k) × IsTrue (test path)) ⊎ ((f ≡ k) × (folder rest : List ℕ) × (path ≡ folder ++ 47 ∷ rest) × IsTrue (test folder))

    there : Accepts a k s path → Either
    there h =
        let (y, z, cut, all, after) = (leads k path bytes).0 h in
        let (v, m, rest) = skips_goes a k u (e ∷ b ∷ []) z union after in
        ⊎_elim {C = Either}
        (λ at. let (same, nil) = final_goes a k j e z is (subst (λ x. Accepts a k x z) at rest) in
        inl (same, subst (λ l. IsTrue (test l)) (sym (cut ∙ ap (λ l. y ++ l) nil ∙ append-nil y)) all))
        (λ other. ⊎_elim {C = Either}
        (λ at. let (same, more, slash) = (below k z (right_of path y z cut bytes)).0 (subst (λ x. Accepts a k x z) at rest) in
        inr (same, y, more, cut ∙ ap (λ l. y ++ l) slash, all))
        (λ no. absurd no) other) m

    back : Either → Accepts a k s path
    back h = ⊎_elim {C = Accepts a k s path}
        (λ (same, all). (leads k path bytes).1
        (path, [], sym (append-nil path), all, by_skip u e [] (e ∷ b ∷ []) union (inl refl) (subst (λ x. Accepts a x e []) same (ends e is))))
        (λ (same, folder, rest, cut, all). (leads k path bytes).1
        (folder, 47 ∷ rest, cut, all, by_skip u b (47 ∷ rest) (e ∷ b ∷ []) union (inr (inl refl)) ((below k (47 ∷ rest) (right_of path folder (47 ∷ rest) cut bytes)).1 (same, rest, refl))))
        h
