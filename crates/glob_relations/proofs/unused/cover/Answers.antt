use Rattle.std.proofs.Common.{◌≡◌, ℕ, ◌<◌, List, [], ◌∷◌, length, sym, subst, ◌∙◌, arith}
use Rattle.std.specs.Prelude.{Contains, slice_index}
use Rattle.std.proofs.lemmas.Bool.{cases_lt}
use Rattle.std.proofs.Math.Logic.{⊎_elim}
use Rattle.glob_relations.specs.Answers.{IsCovered}
use Rattle.glob_relations.specs.Unused.{items_at, IsLeastCover}
use Rattle.bit_sets.proofs.lemmas.IndexSets.{in_one}
use Rattle.glob_relations.proofs.lemmas.Indexes.{contains_index, each_contained}
use Rattle.glob_relations.proofs.lemmas.Unused.{least_one, missed_uncovered}
use Rattle.glob_relations.proofs.unused.cover.Goals as goal
use Rattle.glob_relations.proofs.unused.cover.Goals.{then-has+in_ok-covering_at+in-Not+in-Not-1, then-has+in_ok-covering_at+in-Not+in-Covered-1, else-has}

pub covering_at-requires : goal.covering_at-requires
covering_at-requires g c = λ j at.
    let others = c.args.others.now in
    let i = c.loop-k.k-index in
    subst (λ (x : ℕ). x < length c.args.items.now) (in_one (slice_index others i) j at) (c.requires.within (slice_index others i) (contains_index others i c.loop-k-test.true))

pub loop-k-preserved : goal.loop-k-preserved
loop-k-preserved g c = λ j lt covered.
    let matches = g.T.Compared.matches c.args.options in
    let all = c.args.items.now in
    let others = c.args.others.now in
    let i = c.loop-k.k-index in
    ⊎_elim {C = ⊥}
    (λ low. c.loop-k.invariant j low covered)
    (λ high.
    let same : j ≡ i = omega arith in
    let here : IsCovered matches c.args.item.now (items_at all (slice_index others i ∷ [])) c.args.domain = subst (λ (x : ℕ). IsCovered matches c.args.item.now (items_at all (slice_index others x ∷ [])) c.args.domain) same covered in
    elim c.if-has.branch [
      | then-has+in_ok-covering_at+in-Not+in-Not-1 w ↦
          let ok = rw w.in-Not.is at w.in_ok-covering_at.ensures in
          missed_uncovered matches c.args.item.now (items_at all (slice_index others i ∷ [])) c.args.domain w.in-Not.field-0.items ok.0 here
      | then-has+in_ok-covering_at+in-Not+in-Covered-1 w ↦
          let ok = rw w.in-Not.is at w.in_ok-covering_at.ensures in
          missed_uncovered matches c.args.item.now (items_at all (slice_index others i ∷ [])) c.args.domain w.in-Not.field-0.items ok.0 here
      | else-has w ↦ c.requires.found (slice_index others i) (sym c.has.ensures ∙ w.if-has.false) here
    ])
    (cases_lt j i)

pub returns-in-Covered : goal.returns-in-Covered
returns-in-Covered g c =
    let matches = g.T.Compared.matches c.args.options in
    let all = c.args.items.now in
    let x = c.args.item.now in
    let others = c.args.others.now in
    let i = c.loop-k.k-index in
    let ok = rw c.in-Covered.is at c.in_ok-covering_at.ensures in
    subst (λ (xs : List ℕ). IsLeastCover matches all x (Contains others) c.args.domain xs) (sym c.in_ok-from_array-in-Covered.ensures.items)
    (least_one matches all x others c.args.domain (slice_index others i) (contains_index others i c.loop-k-test.true) c.requires.some ok)

pub returns-in-Unknown : goal.returns-in-Unknown
returns-in-Unknown g c =
    let others = c.args.others.now in
    let k = slice_index others c.loop-k.k-index in
    let ok = rw c.in-Unknown.is at c.in_ok-covering_at.ensures in
    (k ∷ [], (λ j at. subst (Contains others) (in_one k j at) (contains_index others c.loop-k.k-index c.loop-k-test.true)), ok)

pub least_cover-requires-clause-single : goal.least_cover-requires-clause-single
least_cover-requires-clause-single g c =
    each_contained (λ k. IsCovered (g.T.Compared.matches c.args.options) c.args.item.now (items_at c.args.items.now (k ∷ [])) c.args.domain → ⊥) c.args.others.now c.loop-k.k-index (omega arith) c.loop-k.invariant
