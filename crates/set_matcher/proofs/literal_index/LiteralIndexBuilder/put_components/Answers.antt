use Rattle.std.proofs.Common.{◌∷◌, [], ◌++◌, ap, ◌∙◌}
use Rattle.std.proofs.lemmas.Result.{on_ok_weaker}
use Rattle.set_matcher.specs.inner.LiteralIndex.{after_separator, with_end}
use Rattle.set_matcher.proofs.literal_index.LiteralIndexBuilder.put_components.Goals as goal

pub returns : goal.returns
returns c =
    let end = c.in_ok-extend_from_slice.ensures.items ∙ ap (λ xs. xs ++ c.deref.result.now) (c.in_ok-push.ensures.items ∙ ap (λ xs. xs ++ 47 ∷ []) c.in_ok-end.ensures.items) ∙ ap after_separator c.deref.ensures.value in
    on_ok_weaker c.put_end.result (λ is. is ∙ (λ i. with_end (c.in_ok-put_path.ensures i) (end i) c.args.index)) c.put_end.ensures
