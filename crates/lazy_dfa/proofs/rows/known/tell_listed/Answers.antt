use Rattle.std.proofs.Common.{◌≡◌, ℕ, ◌+◌, ◌<◌, ◌≤◌, ◌⊎◌, ◌∷◌, inl, inr, Some, List, length, slice_index, drop, IsTrue, ap, sym, arith, ◌∙◌}
use Rattle.std.specs.Prelude.{◌↔◌, ◌==◌}
use Rattle.std.proofs.lemmas.Bool.{eq-eqb, eqb-true, or_cases}
use Rattle.std.proofs.lemmas.List.{drop_more}
use Rattle.std.proofs.Math.Logic.{⊎_elim}
use Rattle.bit_sets.specs.Indexes.{has_index}
use Rattle.bit_sets.specs.Numbers.{has_number}
use Rattle.byte_nfa.proofs.lemmas.Pass.{iff_trans, or_first, or_second}
use Rattle.lazy_dfa.specs.inner.Lists.{list_at}
use Rattle.byte_nfa.proofs.lemmas.Finding.{iff_beside}
use Rattle.lazy_dfa.proofs.lemmas.Lists.{list_range}
use Rattle.byte_nfa.proofs.lemmas.Told.{told_same, told_more}
use Rattle.lazy_dfa.proofs.rows.known.tell_listed.Goals as goal
use Rattle.lazy_dfa.proofs.rows.known.tell_listed.Goals.{then-index-lowest, else-index-lowest}

-- the first number of a list, and the others
module _ (xs : List ℕ) (i x : ℕ) (lt : i < length xs) (is : x ≡ slice_index xs i) (j : ℕ) where
  first : drop i xs ≡ x ∷ drop (i + 1) xs
  first = drop_more xs i 0 lt ∙ ap (λ n. n ∷ drop (i + 1) xs) (sym is)

  one_of : IsTrue (has_number j (drop i xs)) ↔ (IsTrue (has_number j (drop (i + 1) xs)) ⊎ (Some x ≡ Some j))
  one_of = rw first (there, back)
    where
      rest : Type 0
      rest = IsTrue (has_number j (drop (i + 1) xs))

      there : IsTrue (has_number j (x ∷ drop (i + 1) xs)) → rest ⊎ (Some x ≡ Some j)
      there h = ⊎_elim {C = rest ⊎ (Some x ≡ Some j)} (λ e. inr (ap Some (sym (eqb-true j x e)))) (λ r. inl r) (or_cases (j == x) (has_number j (drop (i + 1) xs)) h)

      back : rest ⊎ (Some x ≡ Some j) → IsTrue (has_number j (x ∷ drop (i + 1) xs))
      back (inl r) = or_second (j == x) (has_number j (drop (i + 1) xs)) r
      back (inr e) = let same : j ≡ x = cc in or_first (j == x) (has_number j (drop (i + 1) xs)) (eq-eqb j x same)

  other : (lowest : ℕ) → x < lowest → lowest ≤ j → IsTrue (has_number j (drop i xs)) ↔ IsTrue (has_number j (drop (i + 1) xs))
  other lowest low le = (
    λ h. ⊎_elim {C = IsTrue (has_number j (drop (i + 1) xs))} (λ r. r) (λ e. let same : x ≡ j = cc in absurd (omega (arith, same, low, le))) (one_of.0 h),
    λ r. one_of.1 (inl r),
  )

pub loop-index-preserved : goal.loop-index-preserved
loop-index-preserved c =
    let numbers = c.args.numbers.now in
    let list = list_at numbers c.args.place in
    let same = list_range numbers c.args.place in
    let i = c.loop-index.index-index in
    let inv = c.loop-index.invariant in
    let lt : i < length list = omega (arith, ap length same, c.loop-index-test.true) in
    let is = ap (λ l. slice_index l i) same in
    let below = c.requires.list.below i lt in
    let before = (λ (j : ℕ). IsTrue (has_number j (drop i list))) in
    let after = (λ (j : ℕ). IsTrue (has_number j (drop (i + 1) list))) in
    elim c.if-index-lowest.branch [
      | then-index-lowest w ↦ rw w.into-is record {
        room = w.put.ensures.room ∙ inv.room;
        has = λ k. iff_trans (inv.has k) (told_more c.args.half before c.args.lowest k (has_index c.loop-index.into k) after _ _ (has_index w.put.new.self k)
            (λ j le. one_of list i _ lt is j) (omega (arith, w.if-index-lowest.true)) (omega (arith, is, below)) w.told_by.ensures (w.put.ensures.has k));
      }
      | else-index-lowest w ↦ rw w.into-is record {
        room = inv.room;
        has = λ k. iff_trans (inv.has k) (iff_beside (told_same c.args.half before c.args.lowest k after (λ j le lt'. other list i _ lt is j c.args.lowest (omega (arith, w.if-index-lowest.false)) le)));
      }
    ]
