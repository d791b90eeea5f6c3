use Rattle.std.proofs.Common.{sym, subst}
use Rattle.ignore_pattern.specs.Automata.{above_index}
use Rattle.ignore_pattern.specs.inner.States.{BuildsPattern}
use Rattle.ignore_pattern.proofs.lemmas.Automata.{one_more}
use Rattle.ignore_pattern.proofs.automaton.push_pattern.Goals as goal

pub returns-clause-patterns : goal.returns-clause-patterns
returns-clause-patterns c = λ ps n count below before.
    let f = above_index n c.args.pattern.now.negated in
    one_more c.args.ignore_case c.args.pattern.now n c.args.below c.args.builder.now c.push_states.new.builder c.add_start.new.self c.in_ok-start.start ps below c.push_states.ensures.grows
    (subst (λ j. BuildsPattern c.args.ignore_case c.args.pattern.now j f c.args.below c.args.builder.now.states c.push_states.new.builder.states c.in_ok-start.start) (sym count) (c.in_ok-start.ensures.builds f))
    c.in_ok-add_start.ensures.states c.in_ok-add_start.ensures.starts before
