use Rattle.std.proofs.Common.{◌∷◌, sym, subst}
use Rattle.ignore_pattern.specs.Patterns.{pattern_matches}
use Rattle.glob_relations.specs.Unused.{items_at}
use Rattle.glob_relations.specs.inner.Automata.{IsFor, indexed_rules, under}
use Rattle.glob_relations.proofs.rules.automaton_of_rule.Goals as goal

pub returns : goal.returns
returns c =
    let by = items_at c.args.patterns.now c.args.others.now in
    subst (IsFor (pattern_matches c.args.ignore_case) (indexed_rules c.args.pattern.now by c.args.patterns.now)) (sym c.finish.ensures)
    (c.in_ok-add_numbered.ensures ((c.args.pattern.now, 0) ∷ under 1 by) c.in_ok-builder.ensures.items)
