use Rattle.std.proofs.Common.{◌≡◌, ◌+◌, ◌<◌, ◌≤◌, ◌++◌, ◌∷◌, [], get_or, length, take, sym, ap, ◌∙◌, arith, true≢false}
use Rattle.std.proofs.lemmas.Bool.{cases_lt}
use Rattle.std.proofs.lemmas.List.{take_more, take_all}
use Rattle.std.proofs.Math.Logic.{⊎_elim}
use Rattle.bit_sets.specs.Indexes.{index_capacity}
use Rattle.bit_sets.proofs.lemmas.IndexSets.{also_then, also_put, also_left}
use Rattle.bit_sets.proofs.index_set.IndexSet.put_all.Goals as goal
use Rattle.bit_sets.proofs.index_set.IndexSet.put_all.Goals.{then-has_capacity_for, else-has_capacity_for}

pub loop-index-preserved : goal.loop-index-preserved
loop-index-preserved c =
    let inv = c.loop-index.invariant in
    let old = c.args.self.now in
    let before = c.loop-index.self in
    let i = c.loop-index.index-index in
    let xs = c.args.indexes.now in
    let lt : i < length xs = omega arith in
    let x = get_or xs i 0 in
    let more : take (i + 1) xs ≡ take i xs ++ x ∷ [] = take_more xs i 0 lt in
    elim c.if-has_capacity_for.branch [
      | then-has_capacity_for w ↦
          let room = c.has_capacity_for.ensures.0 w.if-has_capacity_for.true in
          record {
            room = ap index_capacity w.self-is ∙ w.put.ensures.room ∙ inv.room;
            has = rw (more, w.self-is) (also_then old before w.put.new.self (take i xs) (x ∷ []) inv.room inv.has (also_put before w.put.new.self x room w.put.ensures.has));
          }
      | else-has_capacity_for w ↦
          let past = ⊎_elim {C = index_capacity before ≤ x} (λ lt. absurd (true≢false (sym (c.has_capacity_for.ensures.1 lt) ∙ w.if-has_capacity_for.false))) (λ le. le) (cases_lt x (index_capacity before)) in
          record {
            room = ap index_capacity w.self-is ∙ inv.room;
            has = rw (more, w.self-is) (also_then old before before (take i xs) (x ∷ []) inv.room inv.has (also_left before x past));
          }
    ]

pub returns-clause-has : goal.returns-clause-has
returns-clause-has c =
    let xs = c.args.indexes.now in
    let all : take c.loop-index.index-index xs ≡ xs = take_all c.loop-index.index-index xs (omega arith) in
    rw all at c.loop-index.invariant.has
