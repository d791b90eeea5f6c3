use Rattle.std.proofs.Common.{◌+◌, List, [], ◌∷◌, ◌++◌, length, refl, ap, arith, sym, subst, ◌∙◌}
use Rattle.std.specs.Prelude.{string_bytes}
use Rattle.glob_syntax.specs.Views.{tokens_of}
use Rattle.glob_text.specs.GlobMatches.{GlobValue, glob_value}
use Rattle.glob_text.proofs.lemmas.Globs.{tokens_are}
use Rattle.set_matcher.specs.SetMatcherValue.{AddedGlobs}
use Rattle.set_matcher.specs.inner.Automata.{automata_or_none, no_automata}
use Rattle.set_matcher.specs.inner.SetMatcher.{IsMatcherOf}
use Rattle.set_matcher.proofs.lemmas.Given.{glob_added, no_matcher}
use Rattle.set_matcher.proofs.lemmas.SetMatcher.{no_globs}
use Rattle.set_matcher.proofs.matcher.SetMatcherBuilder.add.Goals as goal

pub overflow_add-self : goal.overflow_add-self
overflow_add-self c =
    let count = ap (λ (v : AddedGlobs). length v.given) c.self.view_is in
    let maximum = ap (λ (v : AddedGlobs). v.count) c.self.view_is in
    omega (arith, count, maximum, c.self.invariant.of_globs.counted, c.requires.room, c.self.ranges)

pub invariant_of-self : goal.invariant_of-self
invariant_of-self c =
    let keys = c.new-in-Err.result in
    let n = c.self.inside.count in record {
      of_globs = no_matcher c.new.result keys (no_automata n) c.new.ensures (no_globs keys n c.new-in-Err.ensures.found c.new-in-Err.ensures.below);
      count = refl;
    }

pub invariant_of-self-2 : goal.invariant_of-self-2
invariant_of-self-2 c =
    let g = glob_value (string_bytes c.args.text.now) c.args.options in
    let ts = tokens_of c.args.tokens.now in
    let n = c.self.inside.count in
    let old = automata_or_none n c.self.inside.automata in
    let new = automata_or_none n c.put-added.new.automata in
    let all = c.and.ensures ∙ ap (λ (gs : List GlobValue). gs ++ g ∷ []) c.copy.ensures in
    let count = ap (λ (v : AddedGlobs). length v.given) c.self.view_is in
    let maximum = ap (λ (v : AddedGlobs). v.count) c.self.view_is in
    let was = c.self.invariant.count in record {
      of_globs = subst (λ (gs : List GlobValue). IsMatcherOf gs (c.self.inside.len + 1) c.put-added.new.keys new) (sym all)
          (glob_added c.self.inside.globs g ts c.self.inside.len c.self.inside.keys c.put-added.new.keys old new (tokens_are g ts c.requires.read) (rw c.requires.read refl) c.requires.weight
          c.in_default.ensures.matcher (c.in_default.ensures.count ∙ sym was) (omega (arith, count, maximum, was, c.requires.room)) c.self.invariant.of_globs);
      count = c.in_default.ensures.count;
    }
