-- What the states of an automaton go on to, and the bytes that lead from one to another.
use Rattle.std.proofs.Common.{◌≡◌, ℕ, inl, inr, Bool, true, ◌&&◌, ◌||◌, List, [], ◌∷◌, ◌++◌, IsTrue, refl, ap, sym, ◌∙◌, subst}
use Rattle.std.specs.Prelude.{◌↔◌, ◌==◌}
use Rattle.std.specs.List.{list_all}
use Rattle.std.proofs.lemmas.Bool.{eqb-true, eq-eqb}
use Rattle.std.proofs.lemmas.List.{append_assoc, append-nil}
use Rattle.std.proofs.Math.Logic.{⊎_elim}
use Rattle.bit_sets.specs.Bytes.{has_byte, IsSetOf}
use Rattle.bit_sets.specs.Texts.{AllBytes, ends_with, is_empty, is_one_byte}
use Rattle.bit_sets.specs.declared.byte_set.ByteSet.{ByteSet}
use Rattle.bit_sets.proofs.lemmas.Booleans.{and_both, and_first, and_second, or_second, or_either}
use Rattle.bit_sets.proofs.lemmas.Cuts.{both, cut_of, some_cut-append, empty_is, one_of, ends_push, ends_at}
use Rattle.bit_sets.proofs.lemmas.Texts.{left_of, right_of}
use Rattle.byte_nfa.specs.Steps.{State, bytes_state, union_state, loop_state, match_state, state, HasNumber, Accepts, ends, by_byte, by_skip, by_out, by_stay}
use Rattle.byte_nfa.specs.Leading.{is_any_byte, Reads, Stays, Leads}

-- a set of bytes and its test agree on bytes
all_same : (test : ℕ → Bool) (w : ByteSet) (y : List ℕ) → IsSetOf test w → AllBytes y → list_all (has_byte w) y ≡ list_all test y
all_same test w [] is bytes = refl
all_same test w (c ∷ cs) is bytes = (λ i. is c bytes.0 i && all_same test w cs is bytes.1 i)

pub any_all : (y : List ℕ) → list_all is_any_byte y ≡ true
any_all [] = refl
any_all (c ∷ cs) = any_all cs

module _ (a : List State) where
  -- ---- what a state of each kind goes on to

  reads_goes : (k s t : ℕ) (w : ByteSet) (y : List ℕ) → state a s ≡ bytes_state w t → Accepts a k s y → (c : ℕ) × (z : List ℕ) × (y ≡ c ∷ z) × IsTrue (has_byte w c) × Accepts a k t z
  reads_goes k s t w y e (ends s' f) = absurd (let g = sym e ∙ f in cc)
  reads_goes k s t w y e (by_byte s' t' c z w' f has rest) =
      let g = sym e ∙ f in let same_w : w' ≡ w = cc in let same_t : t' ≡ t = cc in
      (c, z, refl, (let h : IsTrue (has_byte w c) = subst (λ u. IsTrue (has_byte u c)) same_w has in h), subst (λ u. Accepts a k u z) same_t rest)
  reads_goes k s t w y e (by_skip s' t' z ts f m rest) = absurd (let g = sym e ∙ f in cc)
  reads_goes k s t w y e (by_out s' t' z w' ts f m rest) = absurd (let g = sym e ∙ f in cc)
  reads_goes k s t w y e (by_stay s' c z w' ts f has rest) = absurd (let g = sym e ∙ f in cc)

  pub skips_goes : (k s : ℕ) (ts y : List ℕ) → state a s ≡ union_state ts → Accepts a k s y → (t : ℕ) × HasNumber t ts × Accepts a k t y
  skips_goes k s ts y e (ends s' f) = absurd (let g = sym e ∙ f in cc)
  skips_goes k s ts y e (by_byte s' t' c z w' f has rest) = absurd (let g = sym e ∙ f in cc)
  skips_goes k s ts y e (by_skip s' t' z ts' f m rest) = let g = sym e ∙ f in let same : ts' ≡ ts = cc in (t', subst (HasNumber t') same m, rest)
  skips_goes k s ts y e (by_out s' t' z w' ts' f m rest) = absurd (let g = sym e ∙ f in cc)
  skips_goes k s ts y e (by_stay s' c z w' ts' f has rest) = absurd (let g = sym e ∙ f in cc)

  stays_goes : (k s t : ℕ) (w : ByteSet) (y : List ℕ) → state a s ≡ loop_state w (t ∷ []) → Accepts a k s y → (u z : List ℕ) × (y ≡ u ++ z) × IsTrue (list_all (has_byte w) u) × Accepts a k t z
  stays_goes k s t w y e (ends s' f) = absurd (let g = sym e ∙ f in cc)
  stays_goes k s t w y e (by_byte s' t' c z w' f has rest) = absurd (let g = sym e ∙ f in cc)
  stays_goes k s t w y e (by_skip s' t' z ts' f m rest) = absurd (let g = sym e ∙ f in cc)
  stays_goes k s t w y e (by_out s' t' z w' ts' f m rest) =
      let g = sym e ∙ f in let same : ts' ≡ t ∷ [] = cc in
      let there : t' ≡ t = ⊎_elim {C = t' ≡ t} (λ i. i) (λ no. absurd no) (subst (HasNumber t') same m) in
      ([], y, refl, refl, subst (λ u. Accepts a k u y) there rest)
  stays_goes k s t w y e (by_stay s' c z w' ts' f has rest) =
      let g = sym e ∙ f in let same : w' ≡ w = cc in
      let (u, v, cut, all, after) = stays_goes k s t w z e rest in
      (c ∷ u, v, ap (λ l. c ∷ l) cut, and_both (has_byte w c) (list_all (has_byte w) u) (subst (λ x. IsTrue (has_byte x c)) same has) all, after)

  pub final_goes : (k j s : ℕ) (y : List ℕ) → state a s ≡ match_state j → Accepts a k s y → (j ≡ k) × (y ≡ [])
  final_goes k j s y e (ends s' f) = (let g = sym e ∙ f in let i : j ≡ k = cc in i, refl)
  final_goes k j s y e (by_byte s' t' c z w' f has rest) = absurd (let g = sym e ∙ f in cc)
  final_goes k j s y e (by_skip s' t' z ts' f m rest) = absurd (let g = sym e ∙ f in cc)
  final_goes k j s y e (by_out s' t' z w' ts' f m rest) = absurd (let g = sym e ∙ f in cc)
  final_goes k j s y e (by_stay s' c z w' ts' f has rest) = absurd (let g = sym e ∙ f in cc)

  -- ---- states one after another

  pub leads_none : (s : ℕ) → Leads a s is_empty s
  leads_none s k w bytes = (λ h. ([], w, refl, refl, h), λ (y, z, cut, p, h). subst (Accepts a k s) (sym (cut ∙ ap (λ l. l ++ z) (empty_is y p))) h)

  pub leads_then : (s t e : ℕ) (P Q : List ℕ → Bool) → Leads a s P t → Leads a t Q e → Leads a s (both P Q) e
  leads_then s t e P Q f g k w bytes = (there, back)
    where
      there : Accepts a k s w → (y z : List ℕ) × (w ≡ y ++ z) × IsTrue (both P Q y) × Accepts a k e z
      there h =
          let (y, z, cut, p, rest) = (f k w bytes).0 h in
          let (u, v, cut', q, after) = (g k z (right_of w y z cut bytes)).0 rest in
          (y ++ u, v, cut ∙ ap (λ l. y ++ l) cut' ∙ sym (append_assoc y u v), some_cut-append (λ front back. P front && Q back) y u (and_both (P y) (Q u) p q), after)

      back : ((y z : List ℕ) × (w ≡ y ++ z) × IsTrue (both P Q y) × Accepts a k e z) → Accepts a k s w
      back (x, z, cut, some, after) =
          let (y, u, parts, pq) = cut_of (λ front back. P front && Q back) x some in
          let parts' : w ≡ y ++ (u ++ z) = cut ∙ ap (λ l. l ++ z) parts ∙ append_assoc y u z in
          (f k w bytes).1 (y, u ++ z, parts', and_first (P y) (Q u) pq, (g k (u ++ z) (right_of w y (u ++ z) parts' bytes)).1 (u, z, refl, and_second (P y) (Q u) pq, after))

  pub leads_same : (s e : ℕ) (P Q : List ℕ → Bool) → ((y : List ℕ) → AllBytes y → P y ≡ Q y) → Leads a s P e → Leads a s Q e
  leads_same s e P Q same f k w bytes = (
    λ h. let (y, z, cut, p, rest) = (f k w bytes).0 h in (y, z, cut, sym (same y (left_of w y z cut bytes)) ∙ p, rest),
    λ (y, z, cut, q, rest). (f k w bytes).1 (y, z, cut, same y (left_of w y z cut bytes) ∙ q, rest),
  )

  pub leads_iff : (s e : ℕ) (P Q : List ℕ → Bool) → ((y : List ℕ) → IsTrue (P y) ↔ IsTrue (Q y)) → Leads a s P e → Leads a s Q e
  leads_iff s e P Q same f k w bytes = (
    λ h. let (y, z, cut, p, rest) = (f k w bytes).0 h in (y, z, cut, (same y).0 p, rest),
    λ (y, z, cut, q, rest). (f k w bytes).1 (y, z, cut, (same y).1 q, rest),
  )

  pub leads_read : (s e : ℕ) (test : ℕ → Bool) → Reads a s test e → Leads a s (is_one_byte test) e
  leads_read s e test (w, is, set) k y bytes = (
    λ h. let (c, z, cut, has, rest) = reads_goes k s e w y is h in (c ∷ [], z, cut, sym (set c (subst AllBytes cut bytes).0) ∙ has, rest),
    λ (u, z, cut, one, rest). let (c, single, has) = one_of test u one in
        let whole : y ≡ c ∷ z = cut ∙ ap (λ l. l ++ z) single in
        subst (Accepts a k s) (sym whole) (by_byte s e c z w is (set c (subst AllBytes whole bytes).0 ∙ has) rest),
  )

  stay_back : (k s e : ℕ) (w : ByteSet) (u z : List ℕ) → state a s ≡ loop_state w (e ∷ []) → IsTrue (list_all (has_byte w) u) → Accepts a k e z → Accepts a k s (u ++ z)
  stay_back k s e w [] z is all h = by_out s e z w (e ∷ []) is (inl refl) h
  stay_back k s e w (c ∷ cs) z is all h =
      by_stay s c (cs ++ z) w (e ∷ []) is (and_first (has_byte w c) (list_all (has_byte w) cs) all) (stay_back k s e w cs z is (and_second (has_byte w c) (list_all (has_byte w) cs) all) h)

  pub leads_stay : (s e : ℕ) (test : ℕ → Bool) → Stays a s test e → Leads a s (list_all test) e
  leads_stay s e test (w, is, set) k y bytes = (
    λ h. let (u, z, cut, all, rest) = stays_goes k s e w y is h in (u, z, cut, sym (all_same test w u set (left_of y u z cut bytes)) ∙ all, rest),
    λ (u, z, cut, all, rest). subst (Accepts a k s) (sym cut) (stay_back k s e w u z is (all_same test w u set (left_of y u z cut bytes) ∙ all) rest),
  )

  -- ---- bytes that end with a certain one

  ends_test : (c : ℕ) (y : List ℕ) → IsTrue (both (list_all is_any_byte) (is_one_byte (λ d. d == c)) y) ↔ IsTrue (ends_with c y)
  ends_test c y = (
    λ some. let (x, z, cut, pq) = cut_of (λ front back. list_all is_any_byte front && is_one_byte (λ d. d == c) back) y some in
        let (d, single, has) = one_of (λ d. d == c) z (and_second (list_all is_any_byte x) (is_one_byte (λ d. d == c) z) pq) in
        subst (λ l. IsTrue (ends_with c l)) (sym (cut ∙ ap (λ l. x ++ l) (single ∙ ap (λ u. u ∷ []) (eqb-true d c has)))) (ends_push c x),
    λ h. let (x, is) = ends_at c y h in
        subst (λ l. IsTrue (both (list_all is_any_byte) (is_one_byte (λ d. d == c)) l)) (sym is)
        (some_cut-append (λ front back. list_all is_any_byte front && is_one_byte (λ d. d == c) back) x (c ∷ []) (and_both (list_all is_any_byte x) (c == c) (any_all x) (eq-eqb c c refl))),
  )

  -- nothing, or bytes that end with c
  pub leads_up_to : (s t u e c : ℕ) → state a s ≡ union_state (e ∷ t ∷ []) → Stays a t is_any_byte u → Reads a u (λ d. d == c) e → Leads a s (λ y. is_empty y || ends_with c y) e
  leads_up_to s t u e c first second third k w bytes = (there, back)
    where
      tail : Leads a t (ends_with c) e
      tail = leads_iff t e (both (list_all is_any_byte) (is_one_byte (λ d. d == c))) (ends_with c) (ends_test c)
          (leads_then t u e (list_all is_any_byte) (is_one_byte (λ d. d == c)) (leads_stay t u is_any_byte second) (leads_read u e (λ d. d == c) third))

      there : Accepts a k s w → (y z : List ℕ) × (w ≡ y ++ z) × IsTrue (is_empty y || ends_with c y) × Accepts a k e z
      there h = let (v, m, rest) = skips_goes k s (e ∷ t ∷ []) w first h in
          ⊎_elim {C = (y z : List ℕ) × (w ≡ y ++ z) × IsTrue (is_empty y || ends_with c y) × Accepts a k e z}
          (λ is. ([], w, refl, refl, subst (λ x. Accepts a k x w) is rest))
          (λ other. ⊎_elim {C = (y z : List ℕ) × (w ≡ y ++ z) × IsTrue (is_empty y || ends_with c y) × Accepts a k e z}
          (λ is. let (y, z, cut, ended, after) = (tail k w bytes).0 (subst (λ x. Accepts a k x w) is rest) in (y, z, cut, or_second (is_empty y) (ends_with c y) ended, after))
          (λ no. absurd no) other) m

      back : ((y z : List ℕ) × (w ≡ y ++ z) × IsTrue (is_empty y || ends_with c y) × Accepts a k e z) → Accepts a k s w
      back (y, z, cut, h, after) = ⊎_elim {C = Accepts a k s w}
          (λ nil. by_skip s e w (e ∷ t ∷ []) first (inl refl) (subst (Accepts a k e) (sym (cut ∙ ap (λ l. l ++ z) (empty_is y nil))) after))
          (λ ended. by_skip s t w (e ∷ t ∷ []) first (inr (inl refl)) ((tail k w bytes).1 (y, z, cut, ended, after)))
          (or_either (is_empty y) (ends_with c y) h)

  -- ---- an end

  -- bytes that lead to an end of the index j are accepted for j alone
  pub accepted : (test : List ℕ → Bool) (s e j k : ℕ) (b : List ℕ) → AllBytes b → Leads a s test e → state a e ≡ match_state j → Accepts a k s b ↔ ((j ≡ k) × IsTrue (test b))
  accepted test s e j k b bytes leads is = (
    λ h. let (y, z, cut, all, after) = (leads k b bytes).0 h in
        let (same, nil) = final_goes k j e z is after in
        (same, subst (λ l. IsTrue (test l)) (sym (cut ∙ ap (λ l. y ++ l) nil ∙ append-nil y)) all),
    λ (same, all). (leads k b bytes).1 (b, [], sym (append-nil b), all, subst (λ u. Accepts a u e []) same (ends e is)),
  )
