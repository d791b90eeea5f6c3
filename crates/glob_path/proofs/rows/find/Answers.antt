use Rattle.std.proofs.Common.{arith, ◌/◌, ◌^◌}
use Rattle.glob_path.specs.inner.Rows.{IsHashed}
use Rattle.glob_path.proofs.lemmas.Starts.{near_all, near_sorted, near_contains, near_none, near_length, match_weaker}
use Rattle.glob_path.proofs.rows.find.Goals as goal

pub returns-then-near-le-FEW-clause-row : goal.returns-then-near-le-FEW-clause-row
returns-then-near-le-FEW-clause-row c =
    match_weaker c.scan-then-near-le-FEW.result
    (λ n. near_none c.args.bytes.now c.args.rows.now c.args.directory.now.shift c.args.directory.now.starts.items c.args.key.now c.requires.hashed c.requires.starts (rw (c.near-near.ensures, c.hash-hash.ensures) at n))
    (λ r h. (near_contains c.args.rows.now _ _ r (rw c.near-near.ensures at h.0), h.1))
    c.scan-then-near-le-FEW.ensures.row

pub search-requires-clause-hashed : goal.search-requires-clause-hashed
search-requires-clause-hashed c = rw c.near-near.ensures (near_all (IsHashed c.args.bytes.now) c.args.rows.now _ _ c.requires.hashed)

pub search-requires-clause-sorted : goal.search-requires-clause-sorted
search-requires-clause-sorted c = rw c.near-near.ensures (near_sorted c.args.bytes.now c.args.rows.now _ _ c.requires.sorted)

pub returns-clause-row : goal.returns-clause-row
returns-clause-row c =
    match_weaker c.search.result
    (λ n. near_none c.args.bytes.now c.args.rows.now c.args.directory.now.shift c.args.directory.now.starts.items c.args.key.now c.requires.hashed c.requires.starts (rw (c.near-near.ensures, c.hash-hash.ensures) at n))
    (λ r h. (near_contains c.args.rows.now _ _ r (rw c.near-near.ensures at h.0), h.1))
    c.search.ensures.row

pub returns-clause-compared : goal.returns-clause-compared
returns-clause-compared c = λ k lt.
    let near = near_length c.args.rows.now c.args.directory.now.starts.items (c.hash-hash.result / 2 ^ c.args.directory.now.shift) in
    let few = c.search.ensures.compared k (rw c.near-near.ensures (omega (arith, near, lt))) in
    omega (arith, few)
