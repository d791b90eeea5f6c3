use Rattle.std.proofs.Common.{◌≡◌, ℕ, List, Ok, ap, sym, ◌∙◌, subst}
use Rattle.std.specs.Str.{chars}
use Rattle.glob_syntax.specs.Token.{Tokens}
use Rattle.glob_syntax.specs.Reading.{reading}
use Rattle.glob_text.specs.GlobMatches.{GlobValue, tokens_of_glob, glob_matches}
use Rattle.glob_syntax.specs.TokensMatch.{tokens_match}
use Rattle.glob_text.specs.RegexText.{regex_text}
use Rattle.glob_text.specs.RegexDenotes.{HasExpression}
use Rattle.glob_syntax.specs.Views.{tokens_of}
use Rattle.glob_syntax.specs.inner.WellFormed.{AreWellFormed}
use Rattle.glob_text.proofs.lemmas.Globs.{tokens_are}
use Rattle.glob_text.proofs.lemmas.Expressions.{regex_has}
use Rattle.globset_glob.proofs.glob.Glob.regex.Goals as goal

text_is : (g : GlobValue) (ts : Tokens) (text : List ℕ) → reading g.options (chars g.text) ≡ Ok ts → text ≡ regex_text g.options ts → text ≡ regex_text g.options (tokens_of_glob g)
text_is g ts text read is = is ∙ ap (regex_text g.options) (sym (tokens_are g ts read))

-- the text of a glob denotes what the glob matches
has_expression : (g : GlobValue) (ts : Tokens) (text : List ℕ) → AreWellFormed ts → reading g.options (chars g.text) ≡ Ok ts → text ≡ regex_text g.options ts → HasExpression (glob_matches g) text
unfolding glob_matches
has_expression g ts text formed read is =
    subst (λ us. HasExpression (tokens_match g.options us) text) (sym (tokens_are g ts read))
    (subst (HasExpression (tokens_match g.options ts)) (sym is) (regex_has g.options ts formed))

pub returns-clause-text : goal.returns-clause-text
returns-clause-text c =
    let inv = c.self.invariant in
    text_is c.args.self.now (tokens_of c.self.inside.tokens.items) c.as_str.result.now (rw (← c.self.view_is) inv.read) (rw (← c.self.view_is) (c.as_str.ensures.value ∙ inv.regex))

pub returns-clause-denotes : goal.returns-clause-denotes
returns-clause-denotes c =
    let inv = c.self.invariant in
    has_expression c.args.self.now (tokens_of c.self.inside.tokens.items) c.as_str.result.now
    inv.well_formed (rw (← c.self.view_is) inv.read) (rw (← c.self.view_is) (c.as_str.ensures.value ∙ inv.regex))
