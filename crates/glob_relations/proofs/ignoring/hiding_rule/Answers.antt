use Rattle.std.proofs.Common.{ℕ, List, take, arith}
use Rattle.std.specs.Prelude.{IsTrue}
use Rattle.bit_sets.specs.Indexes.{has_index}
use Rattle.byte_nfa.specs.Steps.{IsReached}
use Rattle.glob_relations.proofs.lemmas.Closed.{closed_by, closed_iff}
use Rattle.glob_relations.proofs.lemmas.Hiding.{clear_more, clear_all, get_at, index_at, split_at}
use Rattle.glob_relations.proofs.ignoring.hiding_rule.Goals as goal
use Rattle.glob_relations.proofs.ignoring.hiding_rule.Goals.{then-path-at-eq47+in_ok-found+in_default, else-path-at-eq47}

pub returns-in-Some : goal.returns-in-Some
returns-in-Some c =
    let path : List ℕ = c.args.path.now in
    let at = c.loop-at.at in
    let folder : List ℕ = take at path in
    let (rest, is) = split_at path at 47 (get_at path at 47 c.loop-at-test.true c.if-path-at-eq47.true) in
    let by = rw c.in-Some.is at c.ignoring_rule.ensures in
    (folder, rest, is, closed_by c.args.ignores.now 0 (λ k. IsTrue (has_index c.in_ok-found.found k)) (IsReached c.args.automaton.now folder) c.in_ok-found.ensures c.in-Some.k by)

pub loop-at-preserved : goal.loop-at-preserved
loop-at-preserved c =
    let ignores = c.args.ignores.now in
    let m = c.args.automaton.now in
    let path : List ℕ = c.args.path.now in
    let at = c.loop-at.at in
    elim c.if-path-at-eq47.branch [
      | then-path-at-eq47+in_ok-found+in_default w ↦
          clear_more ignores m path at c.loop-at.invariant (λ slash closed.
          let has : ℕ → Type 0 = λ k. IsTrue (has_index w.in_ok-found.found k) in
          let none = rw w.in_default.is at w.ignoring_rule.ensures in
          none (closed_iff ignores 0 (IsReached m (take at path)) has (λ k. ((w.in_ok-found.ensures k).1, (w.in_ok-found.ensures k).0)) closed))
      | else-path-at-eq47 w ↦
          clear_more ignores m path at c.loop-at.invariant (λ slash closed. w.if-path-at-eq47.false (index_at path at 47 slash))
    ]
