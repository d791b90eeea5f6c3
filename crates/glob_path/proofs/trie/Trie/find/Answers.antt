use Rattle.std.proofs.Common.{refl, subst, sym, ap, ◌∙◌}
use Rattle.bit_sets.specs.Indexes.{HasAlso}
use Rattle.bit_sets.proofs.lemmas.IndexSets.{also_none}
use Rattle.glob_path.specs.Texts.{found}
use Rattle.glob_path.proofs.lemmas.Anchors.{found_by_tree, found_without_tree}
use Rattle.glob_path.proofs.trie.Trie.find.Goals as goal

pub returns-in-Some-clause-found : goal.returns-in-Some-clause-found
returns-in-Some-clause-found c =
    let e = found_by_tree _ _ c.in-Some.is c.deref.ensures c.self.invariant c.args.path.now ∙ ap (λ t. found t c.args.path.now) c.self.view_is in
    subst (HasAlso c.args.into.now c.find.new.into) e c.find.ensures.found

pub returns-in_default-clause-found : goal.returns-in_default-clause-found
returns-in_default-clause-found c =
    let none = sym (ap (λ t. found t c.args.path.now) c.self.view_is) ∙ found_without_tree _ _ c.in_default.is c.self.invariant c.args.path.now in
    subst (HasAlso c.args.into.now c.args.into.now) (sym none) (also_none c.args.into.now c.args.into.now (λ k. refl))
