use Rattle.std.proofs.Common.{◌≡◌, ◌&&◌, arith, sym, ◌∙◌}
use Rattle.glob_syntax.specs.TokensMatch.{is_prefix}
use Rattle.glob_syntax.specs.Views.{flat_of, tokens_of}
use Rattle.glob_strategy.specs.Excluded.{is_dot, is_prefix_dot_dot, are_excluded}
use Rattle.glob_strategy.specs.inner.FlatTests.{is_simple_that}
use Rattle.glob_strategy.proofs.lemmas.Excluded.{not_insensitive, not_other, by_tokens, other_length, of_three, first_two_hold, first_fails, second_fails}
use Rattle.glob_strategy.proofs.strategy.conditions.is_excluded.Goals as goal
use Rattle.glob_strategy.proofs.strategy.conditions.is_excluded.Goals.{then-is_recursive_prefix, else-is_recursive_prefix}

pub returns-then-options : goal.returns-then-options
returns-then-options c = not_insensitive c.args.options (tokens_of c.args.tokens.now) c.if-options.true

pub returns-in_default : goal.returns-in_default
returns-in_default c = not_other c.args.options (tokens_of c.args.tokens.now) (other_length c.args.tokens.now c.requires (λ three. omega (arith, c.in_default.len_below)))

pub returns-in_default-2 : goal.returns-in_default-2
returns-in_default-2 c = not_other c.args.options (tokens_of c.args.tokens.now) (other_length c.args.tokens.now c.requires (λ three. omega (arith, c.in_default.len_at_least)))

pub returns-then-is_dot : goal.returns-then-is_dot
returns-then-is_dot c =
    let ts = c.args.tokens.now in
    let p = is_simple_that is_prefix (flat_of c.first-item.result) in let q = is_simple_that is_dot (flat_of c.second-item.result) in let r = is_simple_that is_dot (flat_of c.third-item.result) in
    let tests : (p && (q && r)) ≡ is_prefix_dot_dot (tokens_of ts) = of_three ts _ _ _ c.requires (omega arith) c.first-item.is c.second-item.is c.third-item.is in
    let told : is_prefix_dot_dot (tokens_of ts) ≡ are_excluded c.args.options (tokens_of ts) = by_tokens c.args.options (tokens_of ts) c.if-options.false in
    elim c.if-is_recursive_prefix.branch [
      | then-is_recursive_prefix w ↦
          c.is_dot-then-is_dot.ensures ∙ first_two_hold p q r (sym c.is_recursive_prefix.ensures ∙ w.if-is_recursive_prefix.true) (sym w.is_dot.ensures ∙ sym w.value-is ∙ c.if-is_dot.true) ∙ tests ∙ told
      | else-is_recursive_prefix w ↦ absurd (cc)
    ]

pub returns-else-is_dot : goal.returns-else-is_dot
returns-else-is_dot c =
    let ts = c.args.tokens.now in
    let p = is_simple_that is_prefix (flat_of c.first-item.result) in let q = is_simple_that is_dot (flat_of c.second-item.result) in let r = is_simple_that is_dot (flat_of c.third-item.result) in
    let tests : (p && (q && r)) ≡ is_prefix_dot_dot (tokens_of ts) = of_three ts _ _ _ c.requires (omega arith) c.first-item.is c.second-item.is c.third-item.is in
    let told : is_prefix_dot_dot (tokens_of ts) ≡ are_excluded c.args.options (tokens_of ts) = by_tokens c.args.options (tokens_of ts) c.if-options.false in
    c.if-is_dot.false ∙ elim c.if-is_recursive_prefix.branch [
      | then-is_recursive_prefix w ↦ second_fails p q r (sym w.is_dot.ensures ∙ sym w.value-is ∙ c.if-is_dot.false)
      | else-is_recursive_prefix w ↦ first_fails p q r (sym c.is_recursive_prefix.ensures ∙ w.if-is_recursive_prefix.false)
    ] ∙ tests ∙ told
