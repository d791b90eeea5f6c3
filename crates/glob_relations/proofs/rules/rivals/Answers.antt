use Rattle.std.proofs.Common.{◌≡◌, ℕ, List, length, Some, sym, subst, ◌∙◌, arith, refl}
use Rattle.std.specs.Prelude.{Contains, slice_get}
use Rattle.std.proofs.lemmas.Option.{slice_get_read}
use Rattle.ignore_pattern.specs.Patterns.{Pattern}
use Rattle.glob_relations.proofs.lemmas.Indexes.{contains_none}
use Rattle.glob_relations.proofs.lemmas.Rivals.{rival_below, rivals_more, rivals_same}
use Rattle.glob_relations.proofs.rules.rivals.Goals.{then-applies_wherever+in_ok-push, else-applies_wherever}
use Rattle.glob_relations.proofs.rules.rivals.Goals as goal

pub loop-k-preserved : goal.loop-k-preserved
loop-k-preserved c =
    let ps : List Pattern = c.args.patterns.now in
    let i = c.args.i in
    let p = c.args.pattern.now in
    let k = c.loop-k.k in
    let q : Pattern = c.index-patterns-k.result in
    let others = c.loop-k.others.items in
    let has : slice_get ps k ≡ Some q = slice_get_read ps (length ps) k q refl c.loop-k-test.true c.index-patterns-k.is in
    elim c.if-applies_wherever.branch [
      | then-applies_wherever+in_ok-push w ↦
          rw w.others-is (rivals_more ps i p k q others w.push.new.self.items (omega arith) has (sym c.applies_wherever.ensures ∙ w.if-applies_wherever.true) w.in_ok-push.ensures.items c.loop-k.invariant)
      | else-applies_wherever w ↦
          rw w.others-is (rivals_same ps i p k q others has (sym c.applies_wherever.ensures ∙ w.if-applies_wherever.false) c.loop-k.invariant)
    ]

pub returns : goal.returns
returns c = λ j. (
  λ at. ((c.loop-k.invariant j).0 at).0,
  λ rival. (c.loop-k.invariant j).1 (rival, let low = rival_below c.args.patterns.now c.args.i j c.args.pattern.now rival in omega arith),
)
