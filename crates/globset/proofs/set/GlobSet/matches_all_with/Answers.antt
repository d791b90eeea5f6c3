use Rattle.std.proofs.Common.{IfOk, IsTrue, length, subst}
use Rattle.std.specs.Prelude.{◌↔◌}
use Rattle.set_matcher.specs.Answer.{matching_indexes}
use Rattle.set_matcher.specs.Indexes.{ContainsAllBelow}
use Rattle.globset.specs.SetValue.{SetValue, set_globs}
use Rattle.engine.proofs.lemmas.Memory.{fits_any}
use Rattle.globset.proofs.set.GlobSet.matches_all_with.Goals as goal

pub returns-clause-all : goal.returns-clause-all
returns-clause-all c =
    subst (λ (s : SetValue). IsTrue c.unwrap.result ↔ ContainsAllBelow (matching_indexes (set_globs s) c.args.path.now) (length (set_globs s))) c.in-Some.ensures.set
    (subst (λ r. IfOk r (λ yes. IsTrue yes ↔ ContainsAllBelow (matching_indexes (set_globs c.in-Some.matcher.now.set) c.args.path.now) (length (set_globs c.in-Some.matcher.now.set)))) c.unwrap.ensures c.matches_all.ensures.all)

pub matches_all-requires : goal.matches_all-requires
matches_all-requires c = λ slot. fits_any c.scratch.inside.memory slot _ c.scratch.invariant.1.1
