use Rattle.glob_relations.proofs.lemmas.Passes.{accepts_loaded}
use Rattle.glob_relations.proofs.pass.load.Goals as goal

pub returns-clause-same : goal.returns-clause-same
returns-clause-same c = accepts_loaded c.args.automaton.now c.clear.new.self c.put_all.new.self c.args.states.now c.clear.ensures.none c.put_all.ensures.has
