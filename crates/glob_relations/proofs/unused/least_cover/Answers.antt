use Rattle.std.proofs.Common.{ℕ, List, sym, subst, ◌∙◌, arith}
use Rattle.std.specs.Prelude.{Contains}
use Rattle.glob_relations.specs.Answers.{IsCovered}
use Rattle.glob_relations.specs.Unused.{items_at}
use Rattle.glob_relations.proofs.lemmas.Indexes.{rest_is, contains_rest, length_rest}
use Rattle.glob_relations.proofs.lemmas.Unused.{IsCoverTo, cover_first, cover_fewer, cover_kept, cover_least, missed_uncovered}
use Rattle.glob_relations.proofs.unused.least_cover.Goals as goal

pub covering_at-requires : goal.covering_at-requires
covering_at-requires g c = λ k at.
    let set = c.loop-i.set.items in
    let fewer = rest_is c.remove.new.self.items set c.in_ok-fewer.fewer.items c.loop-i.i (c.in_ok-fewer.ensures.items ∙ c.deref.ensures.value) c.remove.ensures.by_index.2 in
    c.requires.within k (c.loop-i.invariant.cover.within k (contains_rest set c.loop-i.i k (subst (λ (xs : List ℕ). Contains xs k) (c.deref-in-loop-i.ensures.value ∙ fewer) at)))

pub loop-i-preserved-in-Covered : goal.loop-i-preserved-in-Covered
loop-i-preserved-in-Covered g c =
    let all = c.args.items.now in
    let x = c.args.item.now in
    let domain = c.args.domain in
    let set = c.loop-i.set.items in
    let i = c.loop-i.i in
    let fewer = rest_is c.remove.new.self.items set c.in_ok-fewer.fewer.items i (c.in_ok-fewer.ensures.items ∙ c.deref.ensures.value) c.remove.ensures.by_index.2 in
    let ok = rw c.in-Covered.is at c.in_ok-covering_at.ensures in
    let len = length_rest set i (omega arith) in
    record {
      within = rw fewer (omega arith);
      cover = subst (λ (xs : List ℕ). IsCoverTo (g.T.Compared.matches c.args.options) all x c.args.others.now domain xs i) (sym fewer)
          (cover_fewer (g.T.Compared.matches c.args.options) all x c.args.others.now domain set i (omega arith) c.loop-i.invariant.cover
          (subst (λ (xs : List ℕ). IsCovered (g.T.Compared.matches c.args.options) x (items_at all xs) domain) (c.deref-in-loop-i.ensures.value ∙ fewer) ok));
    }

pub loop-i-preserved : goal.loop-i-preserved
loop-i-preserved g c =
    let all = c.args.items.now in
    let x = c.args.item.now in
    let domain = c.args.domain in
    let set = c.loop-i.set.items in
    let i = c.loop-i.i in
    let now = c.deref-in-loop-i.result.now in
    let fewer = rest_is c.remove.new.self.items set c.in_ok-fewer.fewer.items i (c.in_ok-fewer.ensures.items ∙ c.deref.ensures.value) c.remove.ensures.by_index.2 in
    let ok = rw c.in-Not.is at c.in_ok-covering_at.ensures in
    record {
      within = omega arith;
      cover = cover_kept (g.T.Compared.matches c.args.options) all x c.args.others.now domain set i (omega arith) c.loop-i.invariant.cover
          (λ covered. missed_uncovered (g.T.Compared.matches c.args.options) x (items_at all now) domain c.in-Not.field-0.items ok.0
          (subst (λ (xs : List ℕ). IsCovered (g.T.Compared.matches c.args.options) x (items_at all xs) domain) (sym (c.deref-in-loop-i.ensures.value ∙ fewer)) covered));
    }

pub returns-in-Unknown : goal.returns-in-Unknown
returns-in-Unknown g c =
    let set = c.loop-i.set.items in
    let fewer = rest_is c.remove.new.self.items set c.in_ok-fewer.fewer.items c.loop-i.i (c.in_ok-fewer.ensures.items ∙ c.deref.ensures.value) c.remove.ensures.by_index.2 in
    let ok = rw c.in-Unknown.is at c.in_ok-covering_at.ensures in (
      c.deref-in-loop-i.result.now,
      λ k at. c.loop-i.invariant.cover.within k (contains_rest set c.loop-i.i k (subst (λ (xs : List ℕ). Contains xs k) (c.deref-in-loop-i.ensures.value ∙ fewer) at)),
      ok,
    )

pub returns : goal.returns
returns g c = cover_least (g.T.Compared.matches c.args.options) c.args.items.now c.args.item.now c.args.others.now c.args.domain c.loop-i.set.items c.loop-i.i (omega arith) c.loop-i.invariant.cover c.requires.single
