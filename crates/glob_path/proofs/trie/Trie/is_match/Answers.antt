use Rattle.std.proofs.Common.{true≢false, IsTrue, ◌↔◌, ◌≢◌, [], subst, sym, ap, ◌∙◌}
use Rattle.glob_path.specs.Texts.{found}
use Rattle.glob_path.proofs.lemmas.Anchors.{found_by_tree, found_without_tree}
use Rattle.glob_path.proofs.trie.Trie.is_match.Goals as goal

pub returns-in-Some-clause-some : goal.returns-in-Some-clause-some
returns-in-Some-clause-some c =
    let e = found_by_tree _ _ c.in-Some.is c.deref.ensures c.self.invariant c.args.path.now ∙ ap (λ t. found t c.args.path.now) c.self.view_is in
    subst (λ f. IsTrue c.has_some.result ↔ (f ≢ [])) e c.has_some.ensures.some

pub returns-in-None-clause-some : goal.returns-in-None-clause-some
returns-in-None-clause-some c =
    (λ yes. absurd (true≢false (sym yes)), λ some. absurd (some (sym (ap (λ t. found t c.args.path.now) c.self.view_is) ∙ found_without_tree _ _ c.in-None.is c.self.invariant c.args.path.now)))
