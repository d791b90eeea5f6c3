use Rattle.std.proofs.Common.{refl}
use Rattle.set_matcher.specs.inner.Automata.{no_automata}
use Rattle.set_matcher.proofs.lemmas.Given.{no_matcher}
use Rattle.set_matcher.proofs.lemmas.SetMatcher.{no_globs}
use Rattle.set_matcher.proofs.matcher.SetMatcherBuilder.new.Goals as goal

pub invariant_of-result : goal.invariant_of-result
invariant_of-result c =
    let keys = c.new-2.result in record {
      of_globs = no_matcher c.new.result keys (no_automata c.args.count) c.new.ensures (no_globs keys c.args.count c.new-2.ensures.found c.new-2.ensures.below);
      count = refl;
    }
