use Rattle.std.proofs.Common.{sym, arith, ap, ◌∙◌, reverse}
use Rattle.glob_path.proofs.lemmas.Sorting.{turn_more}
use Rattle.glob_path.proofs.trie.reverse_all.Goals as goal

pub loop-text-preserved : goal.loop-text-preserved
loop-text-preserved c =
    turn_more c.args.texts.now c.loop-text.texts c.loop-text.text-index c.text-item.result _ (omega arith) c.loop-text.invariant (omega arith) c.text-item.is (c.reverse.ensures.items ∙ ap (λ t. reverse t.bytes.items) (sym c.text-item.is))
    (ap (λ t. t.index) (sym c.text-item.is))
