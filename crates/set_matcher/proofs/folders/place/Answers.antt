use Rattle.std.proofs.Common.{ap, ◌∙◌, arith}
use Rattle.std.specs.Ordering.{ordering_then}
use Rattle.std.specs.declared.cmp.Ordering.TheVariants.{Less}
use Rattle.set_matcher.proofs.lemmas.Folders.{short_place, long_place}
use Rattle.set_matcher.proofs.folders.place.Goals as goal

pub returns-then-text-folder : goal.returns-then-text-folder
returns-then-text-folder c = c.then.ensures ∙ ap (λ o. ordering_then o Less) c.cmp.ensures ∙ short_place c.args.text.now c.args.folder.now (omega (arith, c.if-text-folder.true))

pub returns : goal.returns
returns c = c.then-2.ensures ∙ (λ i. ordering_then (c.cmp-2.ensures i) (c.cmp-3.ensures i)) ∙ long_place c.args.text.now c.args.folder.now _ (omega (arith, c.if-text-folder.false))
