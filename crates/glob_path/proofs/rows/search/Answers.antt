use Rattle.std.proofs.Common.{sym, refl, arith, ◌+◌, ◌-◌, ◌/◌}
use Rattle.glob_path.proofs.lemmas.Rows.{no_row, halves_low, halves_high, halves_none, halves_found}
use Rattle.glob_path.proofs.rows.search.Goals as goal

pub halves-preserved-in-Less : goal.halves-preserved-in-Less
halves-preserved-in-Less c =
    let own = c.requires.hashed (c.halves.low + (c.halves.high - c.halves.low) / 2) no_row (omega (arith, c.halves.invariant.bound, c.halves-test.true)) in
    let less = rw (c.key.ensures, own, c.requires.hash) at c.in-Less.ensures in
    rw c.tick.ensures
    (halves_low c.args.bytes.now c.args.rows.now c.args.key.now _ _ _ _ _ c.requires.sorted c.halves.invariant c.halves-test.true refl (sym less))

pub halves-preserved : goal.halves-preserved
halves-preserved c =
    let own = c.requires.hashed (c.halves.low + (c.halves.high - c.halves.low) / 2) no_row (omega (arith, c.halves.invariant.bound, c.halves-test.true)) in
    let greater = rw (c.key.ensures, own, c.requires.hash) at c.in-Greater.ensures in
    rw c.tick.ensures
    (halves_high c.args.bytes.now c.args.rows.now c.args.key.now _ _ _ _ _ c.requires.sorted c.halves.invariant c.halves-test.true refl (sym greater))

pub returns-in-Equal-clause-row : goal.returns-in-Equal-clause-row
returns-in-Equal-clause-row c =
    let own = c.requires.hashed (c.halves.low + (c.halves.high - c.halves.low) / 2) no_row (omega (arith, c.halves.invariant.bound, c.halves-test.true)) in
    let equal = rw (c.key.ensures, own, c.requires.hash) at c.in-Equal.ensures in
    halves_found c.args.bytes.now c.args.rows.now c.args.key.now _ (omega (arith, c.halves.invariant.bound)) (sym equal)

pub returns-clause-row : goal.returns-clause-row
returns-clause-row c = halves_none c.args.bytes.now c.args.rows.now c.args.key.now _ _ _ _ c.halves.invariant c.halves-test.false
