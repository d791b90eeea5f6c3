use Rattle.std.proofs.Common.{[]}
use Rattle.bit_sets.specs.Indexes.{has_index}
use Rattle.glob_relations.specs.inner.Rows.{AcceptsIn}
use Rattle.glob_relations.proofs.lemmas.Passes.{wanted_last, unwanted}
use Rattle.glob_relations.proofs.pass.is_wanted.Goals as goal

pub returns-then-has_all_below-clause-wanted : goal.returns-then-has_all_below-clause-wanted
returns-then-has_all_below-clause-wanted c =
    wanted_last c.args.required (has_index c.ends_of.new.ends) (AcceptsIn c.args.automaton.now c.args.states.now []) c.has_all_below.result c.has.result c.if-has_all_below.true c.has_all_below.ensures c.has.ensures c.ends_of.ensures.ends

pub returns-else-has_all_below-clause-wanted : goal.returns-else-has_all_below-clause-wanted
returns-else-has_all_below-clause-wanted c =
    unwanted c.args.required (has_index c.ends_of.new.ends) (AcceptsIn c.args.automaton.now c.args.states.now []) c.has_all_below.result c.if-has_all_below.false c.has_all_below.ensures c.ends_of.ensures.ends
