use Rattle.std.proofs.Common.{[], ◌∷◌, sym, subst}
use Rattle.byte_nfa.specs.Steps.{NfaValue}
use Rattle.glob_text.specs.GlobMatches.{glob_matches}
use Rattle.glob_relations.specs.declared.search.SearchAnswer.TheVariants.{Found, Nothing, Limit}
use Rattle.glob_relations.specs.inner.Automata.{IsFor}
use Rattle.glob_relations.proofs.lemmas.Automata.{told_overlap}
use Rattle.glob_relations.proofs.relations.overlap.Goals as goal

pub returns-in-Found-clause-ok : goal.returns-in-Found-clause-ok
returns-in-Found-clause-ok c =
    let one = c.in_ok-add_to.ensures.added [] c.new_builder-builder.ensures.tokens in
    let two = c.in_ok-add_to-2.ensures.added ((c.args.a.now, 0) ∷ []) one in
    let is = subst (IsFor glob_matches ((c.args.a.now, 0) ∷ (c.args.b.now, 1) ∷ [])) (sym c.finish.ensures) two in
    let found = rw c.in-Found.is at c.in_ok-path.ensures in
    told_overlap c.finish.result c.args.a.now c.args.b.now c.args.domain is c.args.limit (Found c.in-Found.path) found

pub returns-in-Nothing-clause-ok : goal.returns-in-Nothing-clause-ok
returns-in-Nothing-clause-ok c =
    let one = c.in_ok-add_to.ensures.added [] c.new_builder-builder.ensures.tokens in
    let two = c.in_ok-add_to-2.ensures.added ((c.args.a.now, 0) ∷ []) one in
    let is = subst (IsFor glob_matches ((c.args.a.now, 0) ∷ (c.args.b.now, 1) ∷ [])) (sym c.finish.ensures) two in
    let none = rw c.in-Nothing.is at c.in_ok-path.ensures in
    told_overlap c.finish.result c.args.a.now c.args.b.now c.args.domain is c.args.limit Nothing none

pub returns-clause-ok : goal.returns-clause-ok
returns-clause-ok c =
    let one = c.in_ok-add_to.ensures.added [] c.new_builder-builder.ensures.tokens in
    let two = c.in_ok-add_to-2.ensures.added ((c.args.a.now, 0) ∷ []) one in
    let is = subst (IsFor glob_matches ((c.args.a.now, 0) ∷ (c.args.b.now, 1) ∷ [])) (sym c.finish.ensures) two in
    let more = rw c.in-Limit.is at c.in_ok-path.ensures in
    told_overlap c.finish.result c.args.a.now c.args.b.now c.args.domain is c.args.limit Limit more
