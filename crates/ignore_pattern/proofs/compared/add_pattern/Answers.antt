use Rattle.ignore_pattern.proofs.lemmas.Compared.{one_more_compared}
use Rattle.ignore_pattern.proofs.compared.add_pattern.Goals as goal

pub returns-clause-added : goal.returns-clause-added
returns-clause-added c = λ xs before.
    one_more_compared c.args.ignore_case c.args.pattern.now c.args.index c.args.builder.now c.push_alone.new.builder c.add_start.new.self c.in_ok-start.start xs
    c.push_alone.ensures.grows c.in_ok-start.ensures.builds c.in_ok-add_start.ensures.states c.in_ok-add_start.ensures.starts before
