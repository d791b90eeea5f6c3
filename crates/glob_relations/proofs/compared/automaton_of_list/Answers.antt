use Rattle.std.proofs.Common.{[], sym, subst}
use Rattle.glob_relations.specs.inner.Automata.{FindsEach}
use Rattle.glob_relations.proofs.lemmas.Finding.{finds_each, finds_shared}
use Rattle.glob_relations.proofs.compared.automaton_of_list.Goals as goal

pub returns-in-Some : goal.returns-in-Some
returns-in-Some g c = finds_shared (g.T.Compared.matches c.args.options) c.args.items.now c.finish-automaton.result c.in-Some.sharing (rw c.in-Some.is at c.in_ok-sharing.ensures)
    (subst (FindsEach (g.T.Compared.matches c.args.options) c.args.items.now) (sym c.finish-automaton.ensures)
    (finds_each (g.T.Compared.matches c.args.options) c.args.items.now c.add_numbered.new.builder (c.in_ok-add_numbered.ensures [] c.new_builder-builder.ensures.tokens)))

pub returns-in-None : goal.returns-in-None
returns-in-None g c = subst (FindsEach (g.T.Compared.matches c.args.options) c.args.items.now) (sym c.finish-automaton.ensures)
    (finds_each (g.T.Compared.matches c.args.options) c.args.items.now c.add_numbered.new.builder (c.in_ok-add_numbered.ensures [] c.new_builder-builder.ensures.tokens))
