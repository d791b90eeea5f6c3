use Rattle.std.proofs.Common.{◌≡◌, IfOk, IsTrue, length, ap, sym, subst, ◌∙◌}
use Rattle.std.specs.Prelude.{◌↔◌}
use Rattle.set_matcher.specs.Answer.{matching_indexes}
use Rattle.set_matcher.specs.Indexes.{ContainsAllBelow}
use Rattle.set_matcher.specs.SetMatcherValue.{SetMatcherValue}
use Rattle.globset.specs.SearcherValue.{SearcherValue}
use Rattle.globset.specs.SetValue.{SetValue, set_globs}
use Rattle.globset.specs.inner.SetOfMatcher.{set_of}
use Rattle.globset.proofs.searcher.Searcher.matches_all_visits.Goals as goal

pub returns-clause-all : goal.returns-clause-all
returns-clause-all c =
    let inside = c.deref.result.now.set in
    let same : inside ≡ c.args.self.now.set =
    ap (λ (m : SetMatcherValue). m.set) c.deref.ensures ∙ sym (ap set_of c.in-Some.is) ∙ c.self.invariant.same ∙ ap (λ (s : SearcherValue). s.set) c.self.view_is in
    subst (λ (s : SetValue). IsTrue c.unwrap.result ↔ ContainsAllBelow (matching_indexes (set_globs s) c.args.path.now) (length (set_globs s))) same
    (subst (λ r. IfOk r (λ yes. IsTrue yes ↔ ContainsAllBelow (matching_indexes (set_globs inside) c.args.path.now) (length (set_globs inside)))) c.unwrap.ensures c.matches_all.ensures.all)
