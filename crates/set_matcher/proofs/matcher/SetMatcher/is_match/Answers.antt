use Rattle.std.proofs.Common.{ℕ, List, ap, sym, subst, true, false, true≢false, arith, ◌∙◌}
use Rattle.std.specs.Prelude.{◌≢◌, ◌↔◌, IsTrue, []}
use Rattle.std.proofs.lemmas.Result.{IfOk-weaker}
use Rattle.set_matcher.specs.inner.LiteralIndex.{keys_found}
use Rattle.set_matcher.specs.inner.TokenGlobs.{token_globs}
use Rattle.set_matcher.specs.SetMatcherValue.{matcher_globs}
use Rattle.set_matcher.specs.inner.Automata.{automata_or_none}
use Rattle.set_matcher.specs.inner.SetMatcher.{IsSetMatcherOf, set_matcher_parts}
use Rattle.set_matcher.proofs.lemmas.Given.{found_is, with_stored}
use Rattle.set_matcher.proofs.lemmas.Matching.{some_found, some_key}
use Rattle.set_matcher.proofs.lemmas.NoAutomata.{kept_is, none_idle}
use Rattle.set_matcher.proofs.matcher.SetMatcher.is_match.Goals as goal

pub returns-then-is_match-clause-some : goal.returns-then-is_match-clause-some
returns-then-is_match-clause-some c =
    let text = c.parts_of-parts.result in
    let automata = automata_or_none c.self.inside.len c.self.inside.automata in
    subst (λ (xs : List ℕ). IsTrue true ↔ (xs ≢ [])) (found_is (ap matcher_globs c.self.view_is) (c.parts_of-parts.ensures.path ∙ c.path.ensures))
    (some_key (token_globs c.self.inside.globs) (set_matcher_parts c.self.inside.keys automata) text c.self.invariant.of_globs.matcher (c.is_match.ensures.some.0 c.if-is_match.true))

pub returns-in-Some-clause-some : goal.returns-in-Some-clause-some
returns-in-Some-clause-some c =
    let text = c.parts_of-parts.result in
    let globs = token_globs c.self.inside.globs in
    let automata = c.deref.result.now in
    let matcher = subst (λ a. IsSetMatcherOf globs (set_matcher_parts c.self.inside.keys a)) (kept_is c.self.inside.len c.in-Some.is c.deref.ensures) c.self.invariant.of_globs.matcher in
    let off : (keys_found c.self.inside.keys text ≢ []) → ⊥ = (λ some. true≢false (sym (c.is_match.ensures.some.1 some) ∙ c.if-is_match.false)) in
    IfOk-weaker c.is_match-in-Some.result _ _ (λ found same.
    subst (λ (xs : List ℕ). IsTrue found ↔ (xs ≢ [])) (found_is (ap matcher_globs c.self.view_is) (c.parts_of-parts.ensures.path ∙ c.path.ensures))
    (some_found globs (set_matcher_parts c.self.inside.keys automata) text found matcher off (same matcher.tokens matcher.are_for))) c.is_match-in-Some.ensures.some

pub returns-in-Some-clause-visits : goal.returns-in-Some-clause-visits
returns-in-Some-clause-visits c =
    let globs = token_globs c.self.inside.globs in
    let matcher = subst (λ a. IsSetMatcherOf globs (set_matcher_parts c.self.inside.keys a)) (kept_is c.self.inside.len c.in-Some.is c.deref.ensures) c.self.invariant.of_globs.matcher in
    with_stored c.self.inside.globs (matcher_globs c.args.self.now) (set_matcher_parts c.self.inside.keys c.deref.result.now) c.args.path.now c.parts_of-parts.result c.args.visits.now c.is_match-in-Some.new.visits
    (ap matcher_globs c.self.view_is) (c.parts_of-parts.ensures.path ∙ c.path.ensures) matcher c.self.invariant.of_globs.size (omega (arith, c.is_match.ensures.visits, c.is_match-in-Some.ensures.visits))

pub returns-clause-some : goal.returns-clause-some
returns-clause-some c =
    let text = c.parts_of-parts.result in
    let n = c.self.inside.len in
    let matcher = c.self.invariant.of_globs.matcher in
    let off : (keys_found c.self.inside.keys text ≢ []) → ⊥ = (λ some. true≢false (sym (c.is_match.ensures.some.1 some) ∙ c.if-is_match.false)) in
    let idle = none_idle n text c.in-None.is c.parts_of-parts.ensures.bytes in
    subst (λ (xs : List ℕ). IsTrue false ↔ (xs ≢ [])) (found_is (ap matcher_globs c.self.view_is) (c.parts_of-parts.ensures.path ∙ c.path.ensures))
    (some_found (token_globs c.self.inside.globs) (set_matcher_parts c.self.inside.keys (automata_or_none n c.self.inside.automata)) text false matcher off
    (λ yes. absurd (true≢false (sym yes)), λ (k, found). absurd (idle.none matcher.tokens matcher.are_for k found)))
