use Rattle.std.proofs.Common.{sym, ap, ◌∙◌, length}
use Rattle.glob_path.specs.Texts.{found}
use Rattle.glob_path.proofs.lemmas.Anchors.{few_by_tree, found_by_tree, found_without_tree}
use Rattle.glob_path.proofs.trie.Trie.count_matches.Goals as goal

pub returns-in-Some-clause-count : goal.returns-in-Some-clause-count
returns-in-Some-clause-count c =
    c.count.ensures.count ∙ ap length (found_by_tree _ _ c.in-Some.is c.deref.ensures c.self.invariant c.args.path.now ∙ ap (λ t. found t c.args.path.now) c.self.view_is)

pub count-requires-clause-fits : goal.count-requires-clause-fits
count-requires-clause-fits c = few_by_tree _ _ c.in-Some.is c.deref.ensures c.self.invariant c.args.path.now

pub returns-in-None-clause-count : goal.returns-in-None-clause-count
returns-in-None-clause-count c =
    sym (ap length (sym (ap (λ t. found t c.args.path.now) c.self.view_is) ∙ found_without_tree _ _ c.in-None.is c.self.invariant c.args.path.now))
