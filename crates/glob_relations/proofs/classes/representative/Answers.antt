use Rattle.std.proofs.Common.{sym, ◌∙◌, arith}
use Rattle.glob_relations.proofs.lemmas.Classes.{alike_next}
use Rattle.glob_relations.proofs.classes.representative.Goals as goal

pub loop-first-preserved : goal.loop-first-preserved
loop-first-preserved c = λ m are. alike_next m c.args.boundaries.now are c.loop-first.byte c.args.first (omega arith) (sym c.has.ensures ∙ c.if-has.false) (c.loop-first.invariant m are)
