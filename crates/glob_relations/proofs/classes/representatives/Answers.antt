use Rattle.std.proofs.Common.{true≢false, sym, subst, ◌∙◌, arith}
use Rattle.glob_relations.specs.inner.Rows.{AreRepresentatives}
use Rattle.glob_relations.proofs.lemmas.Classes.{found_all, found_first, found_past, found_rest}
use Rattle.glob_relations.proofs.classes.representatives.Goals as goal
use Rattle.glob_relations.proofs.classes.representatives.Goals.{then-begins_class+then-is_preferred+in_ok-push, then-begins_class+else-is_preferred+in_ok-push-2, else-begins_class}

pub loop-i-preserved : goal.loop-i-preserved
loop-i-preserved c =
    let m = c.args.automaton.now in
    let set = c.boundaries_of-boundaries.result in
    let first = c.loop-i.bytes.items in
    let rest = c.loop-i.others.items in
    let found = c.loop-i.invariant in
    elim c.if-begins_class.branch [
      | then-begins_class+then-is_preferred+in_ok-push w ↦ rw (w.bytes-is, w.others-is, w.in_ok-push.ensures.items)
          (found_first m set first rest c.loop-i.i found w.representative-byte.result (w.representative-byte.ensures m c.boundaries_of-boundaries.ensures))
      | then-begins_class+else-is_preferred+in_ok-push-2 w ↦ rw (w.bytes-is, w.others-is, w.in_ok-push-2.ensures.items)
          (found_rest m set first rest c.loop-i.i found w.representative-byte.result (w.representative-byte.ensures m c.boundaries_of-boundaries.ensures))
      | else-begins_class w ↦ rw (w.bytes-is, w.others-is)
          (found_past m set first rest c.loop-i.i found (λ begins. true≢false (sym (c.begins_class.ensures.1 begins) ∙ w.if-begins_class.false)))
    ]

pub returns : goal.returns
returns c =
    let m = c.args.automaton.now in
    let all = found_all m c.boundaries_of-boundaries.result c.loop-i.bytes.items c.loop-i.others.items c.loop-i.i c.loop-i.invariant (omega arith) c.boundaries_of-boundaries.ensures in
    subst (AreRepresentatives m) (sym (c.in_ok-extend_from_slice.ensures.items)) (rw c.deref.ensures.value all)
