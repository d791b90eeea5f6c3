use Rattle.std.proofs.Common.{arith, ◌≡◌, false, sym, subst}
use Rattle.std.specs.Str.{bytes_eq}
use Rattle.std.proofs.lemmas.List.{take_all}
use Rattle.std.proofs.lemmas.List.Elements.{All-more}
use Rattle.glob_path.specs.inner.Rows.{row_key, HasNoRow}
use Rattle.glob_path.proofs.rows.scan.Goals as goal

pub loop-row-preserved : goal.loop-row-preserved
loop-row-preserved c = (
  All-more (λ r. bytes_eq (row_key c.args.bytes.now r) c.args.key.now ≡ false) c.args.rows.now c.loop-row.row-index _ c.loop-row-test.true c.loop-row.invariant.0
      (rw c.key.ensures at (sym c.if-eq.ensures)),
  omega (arith, c.tick.ensures, c.loop-row.invariant.1),
  omega (arith, c.tick.ensures, c.loop-row.invariant.2),
)

pub returns-clause-row : goal.returns-clause-row
returns-clause-row c = subst (λ l. HasNoRow c.args.bytes.now l c.args.key.now) (take_all c.loop-row.row-index c.args.rows.now c.loop-row-test.false) c.loop-row.invariant.0
