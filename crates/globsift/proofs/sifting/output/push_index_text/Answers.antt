use Rattle.std.proofs.Common.{◌≡◌, ℕ, List, ◌++◌, ap, refl, decimal, get_or, ◌∙◌, arith}
use Rattle.std.proofs.lemmas.Grind.{common_steps}
use Rattle.globsift.proofs.lemmas.IndexText.{joined_step}
use Rattle.globsift.proofs.sifting.output.push_index_text.Goals as goal
use Rattle.globsift.proofs.sifting.output.push_index_text.Goals.{then-i-gt0+in_ok-push, else-i-gt0}

pub loop-i-preserved : goal.loop-i-preserved
loop-i-preserved c =
    let text : c.as_bytes.result.now ≡ decimal (get_or c.args.indexes.now c.loop-i.i 0) = c.as_bytes.ensures.value ∙ c.format.ensures.text in
    c.in_ok-extend_from_slice.ensures.items ∙ ap (λ (l : List ℕ). c.if-i-gt0.output.items ++ l) text
    ∙ joined_step c.args.indexes.now c.loop-i.i _ c.args.output.now.items c.loop-i.output.items c.if-i-gt0.output.items c.loop-i-test.true refl c.loop-i.invariant
    (λ p. elim c.if-i-gt0.branch [ then-i-gt0+in_ok-push w ↦ absurd (omega arith) | else-i-gt0 w ↦ grind (arith, common_steps) ])
    (λ p. elim c.if-i-gt0.branch [ then-i-gt0+in_ok-push w ↦ grind (arith, common_steps) | else-i-gt0 w ↦ absurd (omega arith) ])
