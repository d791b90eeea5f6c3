use Rattle.std.proofs.Common.{◌≡◌, ◌+◌, ◌-◌, ◌<◌, true, ◌∷◌, length, drop, arith, sym, ap, subst, ◌∙◌}
use Rattle.std.proofs.lemmas.List.{drop_more}
use Rattle.glob_syntax.specs.Views.{flat_of, flats}
use Rattle.glob_strategy.specs.TokenTests.{is_literal_except}
use Rattle.glob_strategy.specs.inner.FlatTests.{is_simple_that, all_simple_pass}
use Rattle.glob_strategy.proofs.lemmas.FlatTests.{is_plain}
use Rattle.glob_strategy.proofs.lemmas.Endings.{dot_cut, dot_found, none_found, plain_ends}
use Rattle.glob_strategy.proofs.strategy.key.ending.Goals as goal

pub returns-then-is_dot-clause-text : goal.returns-then-is_dot-clause-text
returns-then-is_dot-clause-text c =
    let tokens = c.args.tokens.now in
    let j = length tokens - 1 - c.loop-i.i in
    let token = c.index-tokens-at.result in
    let lt : j < length tokens = omega arith in
    let up : length tokens - c.loop-i.i ≡ j + 1 = omega arith in
    let more : drop j tokens ≡ token ∷ drop (j + 1) tokens = drop_more tokens j token lt ∙ ap (λ x. x ∷ drop (j + 1) tokens) (sym c.index-tokens-at.is) in
    dot_found tokens j token more (sym c.is_dot.ensures ∙ c.if-is_dot.true) (subst (λ k. all_simple_pass is_plain (flats (drop k tokens)) ≡ true) up c.loop-i.invariant)

pub returns-then-is_dot-clause-last : goal.returns-then-is_dot-clause-last
returns-then-is_dot-clause-last c =
    let tokens = c.args.tokens.now in
    let j = length tokens - 1 - c.loop-i.i in
    let token = c.index-tokens-at.result in
    let lt : j < length tokens = omega arith in
    let up : length tokens - c.loop-i.i ≡ j + 1 = omega arith in
    let more : drop j tokens ≡ token ∷ drop (j + 1) tokens = drop_more tokens j token lt ∙ ap (λ x. x ∷ drop (j + 1) tokens) (sym c.index-tokens-at.is) in
    dot_cut tokens j token more (sym c.is_dot.ensures ∙ c.if-is_dot.true) (subst (λ k. all_simple_pass is_plain (flats (drop k tokens)) ≡ true) up c.loop-i.invariant)

pub returns-then-not-is_literal_except-clause-text : goal.returns-then-not-is_literal_except-clause-text
returns-then-not-is_literal_except-clause-text c =
    let tokens = c.args.tokens.now in
    let j = length tokens - 1 - c.loop-i.i in
    let token = c.index-tokens-at.result in
    let lt : j < length tokens = omega arith in
    let up : length tokens - c.loop-i.i ≡ j + 1 = omega arith in
    let more : drop j tokens ≡ token ∷ drop (j + 1) tokens = drop_more tokens j token lt ∙ ap (λ x. x ∷ drop (j + 1) tokens) (sym c.index-tokens-at.is) in
    none_found tokens j token more (ap (λ x. is_simple_that (is_literal_except x) (flat_of token)) (sym c.as_slice.ensures) ∙ sym c.is_literal_except.ensures ∙ c.if-not-is_literal_except.true) (sym c.is_dot.ensures ∙ c.if-is_dot.false)
    (subst (λ k. all_simple_pass is_plain (flats (drop k tokens)) ≡ true) up c.loop-i.invariant)

pub returns-clause-text : goal.returns-clause-text
returns-clause-text c =
    let tokens = c.args.tokens.now in
    let all : length tokens - c.loop-i.i ≡ 0 = omega arith in
    sym (plain_ends (flats tokens) (subst (λ k. all_simple_pass is_plain (flats (drop k tokens)) ≡ true) all c.loop-i.invariant))
