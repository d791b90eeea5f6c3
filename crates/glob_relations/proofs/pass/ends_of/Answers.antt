use Rattle.glob_relations.proofs.lemmas.Passes.{ends_reached}
use Rattle.glob_relations.proofs.pass.ends_of.Goals as goal

pub returns-clause-ends : goal.returns-clause-ends
returns-clause-ends c = ends_reached c.args.automaton.now c.args.states.now c.load.new.into c.clear.new.self c.ends.new.into c.load.ensures.same c.clear.ensures.none c.ends.ensures.ends
