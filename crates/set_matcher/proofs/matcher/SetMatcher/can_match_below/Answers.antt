use Rattle.std.proofs.Common.{ap, sym, subst, arith, true, false, true≢false, ◌∙◌}
use Rattle.std.proofs.lemmas.Result.{IfOk-weaker}
use Rattle.bit_sets.proofs.lemmas.Texts.{all_bytes}
use Rattle.set_matcher.specs.inner.TokenGlobs.{token_globs}
use Rattle.set_matcher.specs.SetMatcherValue.{matcher_globs}
use Rattle.set_matcher.specs.inner.Automata.{automata_or_none}
use Rattle.set_matcher.specs.inner.SetMatcher.{IsSetMatcherOf, set_matcher_parts}
use Rattle.set_matcher.proofs.lemmas.Below.{below_by_automata, below_by_key}
use Rattle.set_matcher.proofs.lemmas.Given.{below_is, below_stored}
use Rattle.set_matcher.proofs.lemmas.NoAutomata.{kept_is, none_below}
use Rattle.set_matcher.proofs.matcher.SetMatcher.can_match_below.Goals as goal

pub returns-then-can_match_below-clause-some : goal.returns-then-can_match_below-clause-some
returns-then-can_match_below-clause-some c =
    let folder = c.args.folder.now in
    let automata = automata_or_none c.self.inside.len c.self.inside.automata in
    let bytes = all_bytes folder (λ i. omega (arith, c.type_inv.folder i)) in
    below_is folder true (ap matcher_globs c.self.view_is)
    (below_by_key (token_globs c.self.inside.globs) (set_matcher_parts c.self.inside.keys automata) folder c.self.invariant.of_globs.matcher bytes
    (c.can_match_below.ensures.some.0 c.if-can_match_below.true))

pub returns-in-Some-clause-some : goal.returns-in-Some-clause-some
returns-in-Some-clause-some c =
    let folder = c.args.folder.now in
    let globs = token_globs c.self.inside.globs in
    let matcher = subst (λ a. IsSetMatcherOf globs (set_matcher_parts c.self.inside.keys a)) (kept_is c.self.inside.len c.in-Some.is c.deref.ensures) c.self.invariant.of_globs.matcher in
    let bytes = all_bytes folder (λ i. omega (arith, c.type_inv.folder i)) in
    IfOk-weaker c.can_match_below-in-Some.result _ _ (λ yes same.
    below_is folder yes (ap matcher_globs c.self.view_is)
    (below_by_automata globs (set_matcher_parts c.self.inside.keys c.deref.result.now) folder yes matcher bytes
    (λ key. true≢false (sym (c.can_match_below.ensures.some.1 key) ∙ c.if-can_match_below.false))
    (same matcher.tokens matcher.are_for))) c.can_match_below-in-Some.ensures.some

pub returns-in-Some-clause-visits : goal.returns-in-Some-clause-visits
returns-in-Some-clause-visits c =
    let globs = token_globs c.self.inside.globs in
    let matcher = subst (λ a. IsSetMatcherOf globs (set_matcher_parts c.self.inside.keys a)) (kept_is c.self.inside.len c.in-Some.is c.deref.ensures) c.self.invariant.of_globs.matcher in
    below_stored c.self.inside.globs (matcher_globs c.args.self.now) (set_matcher_parts c.self.inside.keys c.deref.result.now) c.args.folder.now c.args.visits.now c.can_match_below.new.visits c.can_match_below-in-Some.new.visits
    (ap matcher_globs c.self.view_is) matcher c.self.invariant.of_globs.size_below c.can_match_below.ensures.visits c.can_match_below-in-Some.ensures.visits

pub returns-in-None-clause-some : goal.returns-in-None-clause-some
returns-in-None-clause-some c =
    let folder = c.args.folder.now in
    let n = c.self.inside.len in
    let matcher = c.self.invariant.of_globs.matcher in
    let bytes = all_bytes folder (λ i. omega (arith, c.type_inv.folder i)) in
    below_is folder false (ap matcher_globs c.self.view_is)
    (below_by_automata (token_globs c.self.inside.globs) (set_matcher_parts c.self.inside.keys (automata_or_none n c.self.inside.automata)) folder false matcher bytes
    (λ key. true≢false (sym (c.can_match_below.ensures.some.1 key) ∙ c.if-can_match_below.false))
    (λ yes. absurd (true≢false (sym yes)), λ found. absurd (none_below n folder matcher.tokens c.in-None.is (λ i. omega (arith, c.type_inv.folder i)) matcher.are_for found)))
