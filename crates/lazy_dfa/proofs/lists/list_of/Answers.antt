use Rattle.std.proofs.Common.{◌≡◌, ℕ, ◌<◌, ◌≤◌, Bool, false, true≢false, List, [], ◌∷◌, ◌++◌, IsTrue, arith, sym, subst, ◌∙◌, length-append}
use Rattle.std.specs.Prelude.{◌↔◌, ◌==◌}
use Rattle.std.proofs.lemmas.Bool.{cases_lt, eq-eqb, eqb-true, or_cases}
use Rattle.std.proofs.Math.Logic.{⊎_elim}
use Rattle.bit_sets.specs.Numbers.{has_number}
use Rattle.bit_sets.specs.StateSets.{has_state}
use Rattle.std.proofs.lemmas.Bool.{or_left as or_first, or_right as or_second}
use Rattle.bit_sets.proofs.lemmas.Lists.{below_more, listed_push}
use Rattle.lazy_dfa.proofs.lists.list_of.Goals as goal

-- the states down to s are listed: s is in the set, and no state between it and the bound before
module _ (n s high : ℕ) (set : ℕ → Bool) (list : List ℕ) (lt : s < high) (le : high ≤ n) (between : (k : ℕ) → s < k → k < high → set k ≡ false)
    (has : (t : ℕ) → IsTrue (has_number t list) ↔ ((high ≤ t) × (t < n) × IsTrue (set t))) where
  listed_more : IsTrue (set s) → (t : ℕ) → IsTrue (has_number t (list ++ s ∷ [])) ↔ ((s ≤ t) × (t < n) × IsTrue (set t))
  listed_more here t = (there, λ (low, small, at). back low small at)
    where
      there : IsTrue (has_number t (list ++ s ∷ [])) → (s ≤ t) × (t < n) × IsTrue (set t)
      there h = ⊎_elim {C = (s ≤ t) × (t < n) × IsTrue (set t)} (λ old. let (low, small, at) = (has t).0 old in (omega arith, small, at))
          (λ e. let is : t ≡ s = eqb-true t s e in (omega arith, omega arith, subst (λ u. IsTrue (set u)) (sym is) here))
          (or_cases (has_number t list) (t == s) (sym (listed_push t s list) ∙ h))

      back : s ≤ t → t < n → IsTrue (set t) → IsTrue (has_number t (list ++ s ∷ []))
      back low small at = ⊎_elim {C = IsTrue (has_number t (list ++ s ∷ []))}
          (λ under. ⊎_elim {C = IsTrue (has_number t (list ++ s ∷ []))} (λ over. absurd (true≢false (sym at ∙ between t over under)))
          (λ down. let is : t ≡ s = omega arith in listed_push t s list ∙ or_second (has_number t list) (t == s) (eq-eqb t s is)) (cases_lt s t))
          (λ above. listed_push t s list ∙ or_first (has_number t list) (t == s) ((has t).1 (above, small, at)))
          (cases_lt t high)

pub loop-s-preserved : goal.loop-s-preserved
loop-s-preserved c =
    let inv = c.loop-s.invariant in
    let (lt, at, between) = c.in-Some.ensures.found in
    let s = c.in-Some.s in
    let n = c.args.limit in
    let list = c.loop-s.list.items in
    rw c.push_within.ensures.items record {
      within = omega (arith, lt);
      below = below_more n s list (omega (arith, lt)) inv.below;
      few = omega (arith, lt, length-append list (s ∷ []));
      has = listed_more n s c.loop-s.high (has_state c.args.set.now) list lt inv.within between inv.has at;
      capacity = omega (arith, c.push_within.ensures.capacity);
      visits = omega (arith, inv.visits, c.in-Some.ensures.visits);
      counted = omega (arith, inv.counted, c.in-Some.ensures.counted);
    }
