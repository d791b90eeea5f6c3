use Rattle.std.proofs.Common.{◌≡◌, ◌+◌, ◌-◌, ◌∷◌, ◌++◌, [], ap, sym, ◌∙◌, arith}
use Rattle.std.specs.List.{range_with_len}
use Rattle.glob_relations.proofs.lemmas.Indexes.{range_more}
use Rattle.glob_relations.proofs.compared.numbers.Goals as goal

pub loop-k-preserved : goal.loop-k-preserved
loop-k-preserved c =
    let low = c.args.low in
    let n = c.loop-k.k - low in
    let next : n + 1 ≡ c.loop-k.k + 1 - low = omega arith in
    let here : c.loop-k.k ≡ low + n = omega arith in
    c.in_ok-push.ensures.items ∙ ap (λ xs. xs ++ c.loop-k.k ∷ []) c.loop-k.invariant ∙ ap (λ x. range_with_len low n ++ x ∷ []) here ∙ sym (range_more low n) ∙ ap (range_with_len low) next
