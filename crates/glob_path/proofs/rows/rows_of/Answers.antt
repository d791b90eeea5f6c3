use Rattle.std.proofs.Common.{arith, refl}
use Rattle.std.proofs.lemmas.Bool.{MatchBool-at_true, MatchBool-at_false}
use Rattle.glob_path.specs.inner.Rows.{IsSameKey, IsOtherKey}
use Rattle.glob_path.proofs.lemmas.Groups.{grouped_more, grouped_row, grouped_all}
use Rattle.glob_path.proofs.rows.rows_of.Goals.{then-ends_group+in_ok-push, else-ends_group}
use Rattle.glob_path.proofs.rows.rows_of.Goals as goal

pub loop-at-preserved : goal.loop-at-preserved
loop-at-preserved c =
    let bytes = c.args.bytes.now in
    let pairs = c.args.pairs.now in
    elim c.if-ends_group.branch [
      | then-ends_group+in_ok-push w ↦
          rw (w.rows-is, w.from-is, w.in_ok-push.ensures.items)
          (grouped_row bytes pairs c.loop-at.rows.items c.loop-at.from c.loop-at.at c.loop-at.invariant (omega (arith, c.loop-at-test.true)) c.requires.sorted
          (MatchBool-at_true (IsOtherKey bytes pairs c.loop-at.at) (IsSameKey bytes pairs c.loop-at.at) w.if-ends_group.true c.ends_group.ensures) _ refl refl refl
          (c.requires.kept c.loop-at.at _ (omega (arith, c.loop-at-test.true))).1)
      | else-ends_group w ↦
          rw (w.rows-is, w.from-is)
          (grouped_more bytes pairs c.loop-at.rows.items c.loop-at.from c.loop-at.at c.loop-at.invariant (omega (arith, c.loop-at-test.true))
          (MatchBool-at_false (IsOtherKey bytes pairs c.loop-at.at) (IsSameKey bytes pairs c.loop-at.at) w.if-ends_group.false c.ends_group.ensures))
    ]

pub returns : goal.returns
returns c = rw c.shrink_to_fit.ensures.items (grouped_all _ _ _ _ _ c.loop-at.invariant (omega (arith, c.loop-at-test.false)))
