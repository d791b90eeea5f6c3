use Rattle.std.proofs.Common.{◌∷◌, sym, subst}
use Rattle.glob_relations.specs.Unused.{items_at}
use Rattle.glob_relations.specs.declared.search.SearchAnswer.TheVariants.{Found, Nothing, Limit}
use Rattle.glob_relations.specs.inner.Automata.{IsFor, under}
use Rattle.glob_relations.proofs.lemmas.Automata.{told_covering}
use Rattle.glob_relations.proofs.relations.covering_at.Goals as goal

pub returns-in-Found : goal.returns-in-Found
returns-in-Found g c =
    let matches = g.T.Compared.matches c.args.options in
    let by = items_at c.args.items.now c.args.by.now in
    let is = subst (IsFor matches ((c.args.item.now, 0) ∷ under 1 by)) (sym c.finish-automaton.ensures) c.in_ok-builder_at.ensures.items in
    let found = rw c.in-Found.is at c.in_ok-path.ensures in
    told_covering matches c.finish-automaton.result c.args.item.now by c.args.domain is c.args.limit (Found c.in-Found.path) found

pub returns-in-Nothing : goal.returns-in-Nothing
returns-in-Nothing g c =
    let matches = g.T.Compared.matches c.args.options in
    let by = items_at c.args.items.now c.args.by.now in
    let is = subst (IsFor matches ((c.args.item.now, 0) ∷ under 1 by)) (sym c.finish-automaton.ensures) c.in_ok-builder_at.ensures.items in
    let none = rw c.in-Nothing.is at c.in_ok-path.ensures in
    told_covering matches c.finish-automaton.result c.args.item.now by c.args.domain is c.args.limit Nothing none

pub returns : goal.returns
returns g c =
    let matches = g.T.Compared.matches c.args.options in
    let by = items_at c.args.items.now c.args.by.now in
    let is = subst (IsFor matches ((c.args.item.now, 0) ∷ under 1 by)) (sym c.finish-automaton.ensures) c.in_ok-builder_at.ensures.items in
    let more = rw c.in-Limit.is at c.in_ok-path.ensures in
    told_covering matches c.finish-automaton.result c.args.item.now by c.args.domain is c.args.limit Limit more
