use Rattle.std.proofs.Common.{◌≡◌, ℕ, ◌-◌, ◌<◌, List, length, ap, subst, ◌∙◌, arith}
use Rattle.std.specs.Prelude.{Contains}
use Rattle.std.specs.List.{range_with_len}
use Rattle.glob_relations.specs.Answers.{TellsCovering}
use Rattle.glob_relations.specs.Unused.{items_at}
use Rattle.glob_relations.specs.declared.relations.Coverage.{Coverage}
use Rattle.glob_relations.proofs.lemmas.Indexes.{if_ok_more, range_below}
use Rattle.glob_relations.proofs.lemmas.Unused.{items_all}
use Rattle.glob_relations.proofs.relations.cover.Goals as goal

pub covering_at-requires : goal.covering_at-requires
covering_at-requires g c = λ k at.
    let n = length c.args.by.now in
    let all : n - 0 ≡ n = omega arith in
    let low = range_below 0 n k (subst (λ (xs : List ℕ). Contains xs k) (c.deref.ensures.value ∙ c.in_ok-all.ensures ∙ ap (range_with_len 0) all) at) in
    omega arith

pub returns : goal.returns
returns g c =
    let matches = g.T.Compared.matches c.args.options in
    let by : List g.row.T.Denot = c.args.by.now in
    let all : length by - 0 ≡ length by = omega arith in
    let same : items_at by c.deref.result.now ≡ by = ap (items_at by) (c.deref.ensures.value ∙ c.in_ok-all.ensures ∙ ap (range_with_len 0) all) ∙ items_all by in
    if_ok_more (TellsCovering matches c.args.item.now (items_at by c.deref.result.now) c.args.domain c.args.limit)
    (TellsCovering matches c.args.item.now by c.args.domain c.args.limit)
    c.covering_at.result
    (λ (told : Coverage) is. subst (λ (xs : List g.row.T.Denot). TellsCovering matches c.args.item.now xs c.args.domain c.args.limit told) same is)
    c.covering_at.ensures
