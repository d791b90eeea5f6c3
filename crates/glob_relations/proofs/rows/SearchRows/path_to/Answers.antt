use Rattle.std.proofs.Common.{◌≡◌, ℕ, [], ◌∷◌, length, ap, sym, subst, ◌∙◌, arith, length-append}
use Rattle.std.specs.Prelude.{reverse}
use Rattle.std.proofs.lemmas.List.{reverse-append, length-reverse}
use Rattle.std.proofs.lemmas.Option.{slice_get_read}
use Rattle.bit_sets.specs.Texts.{AllBytes}
use Rattle.glob_relations.specs.inner.Rows.{HasRow, WantsRow, WantsFrom}
use Rattle.glob_relations.proofs.lemmas.Rows.{origin_deep, first_deep, wants_goes, wants_begins}
use Rattle.glob_relations.proofs.rows.SearchRows.path_to.Goals as goal

pub loop-at-init : goal.loop-at-init
loop-at-init c = rw c.new-path.ensures.items record {
  within = c.requires.number;
  bytes = tt;
  deep = λ depth deep. (depth, deep, omega arith);
  leads = λ m n row is at wants. (row, at, wants);
}

pub loop-at-smaller : goal.loop-at-smaller
loop-at-smaller c =
    let self = c.args.self.now in
    let origin = c.index-origin.result.now in
    let from = slice_get_read self.origins.items (length self.seen.keys) c.loop-at.at origin (sym c.requires.origins) c.loop-at.invariant.within c.index-origin.ensures in
    (c.requires.rows c.loop-at.at origin (omega arith) from).0

pub loop-at-preserved : goal.loop-at-preserved
loop-at-preserved c =
    let self = c.args.self.now in
    let inv = c.loop-at.invariant in
    let origin = c.index-origin.result.now in
    let from = slice_get_read self.origins.items (length self.seen.keys) c.loop-at.at origin (sym c.requires.origins) inv.within c.index-origin.ensures in
    let (low, byte) = c.requires.rows c.loop-at.at origin (omega arith) from in
    let turned : reverse c.push.new.self.items ≡ origin.byte ∷ reverse c.loop-at.path.items = ap reverse c.in_ok-push.ensures.items ∙ reverse-append c.loop-at.path.items (origin.byte ∷ []) in
    record {
      within = omega (arith, low, inv.within);
      bytes = subst AllBytes (sym turned) (byte, inv.bytes);
      deep = λ depth deep.
          let (d, is, sum) = inv.deep depth deep in
          let (e, below, less) = origin_deep self c.loop-at.at d origin (omega arith) from is in
          (e, below, omega (arith, less, sum, ap length c.in_ok-push.ensures.items, length-append c.loop-at.path.items (origin.byte ∷ [])));
      leads = λ m n row is at wants.
          let (p, has, w) = inv.leads m n row is at wants in
          let (q, lower, small, has', goes) = is.came c.loop-at.at p origin (omega arith) has from in
          (q, has', subst (WantsRow m n q) (sym turned) ((wants_goes m n q origin.byte p (reverse c.loop-at.path.items) goes).1 w));
    }

pub returns-clause-path : goal.returns-clause-path
returns-clause-path c = λ m n row is at wants.
    let (p, has, w) = c.loop-at.invariant.leads m n row is at wants in
    let zero_is : c.loop-at.at ≡ 0 = omega arith in
    let first = subst (λ (i : ℕ). HasRow c.args.self.now i p) zero_is has in
    subst (WantsFrom m n) (sym c.reverse.ensures.items) ((wants_begins m n p (reverse c.loop-at.path.items) (is.begins p first)).0 w)

pub returns-clause-length : goal.returns-clause-length
returns-clause-length c = λ depth deep.
    let (d, is, sum) = c.loop-at.invariant.deep depth deep in
    let none = first_deep c.args.self.now c.loop-at.at d (omega arith) is in
    omega (arith, none, sum, ap length c.reverse.ensures.items, length-reverse c.loop-at.path.items)
