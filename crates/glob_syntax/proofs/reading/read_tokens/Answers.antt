use Rattle.std.proofs.Common.{rules, zero, subst, sym}
use Rattle.std.specs.Str.{chars}
use Rattle.glob_syntax.specs.inner.Nests.{Nests}
use Rattle.glob_syntax.specs.Reading.{reading}
use Rattle.glob_syntax.specs.Views.{tokens_of}
use Rattle.glob_syntax.specs.inner.LexemeViews.{lexemes_of}
use Rattle.glob_syntax.proofs.lemmas.Nesting.{nested_again}
use Rattle.std.proofs.lemmas.Str.{scalars-chars}
use Rattle.glob_syntax.proofs.lemmas.Weights.{text_weight}
use Rattle.glob_syntax.proofs.lemmas.WellFormed.{reads_well}
use Rattle.glob_syntax.proofs.reading.read_tokens.Goals as goal

pub tokens-requires : goal.tokens-requires
tokens-requires c = subst (λ l. Nests zero (lexemes_of l)) (sym c.deref-2.ensures.value) (record { is = nested_again _ zero _ c.in_ok-lexemes.ensures })

pub returns-clause-weight : goal.returns-clause-weight
unfolding reading
returns-clause-weight c = text_weight c.args.options c.args.text.now (tokens_of c.in_ok-tokens.field-0.items) c.utf8.text (search rules)

pub returns-clause-well_formed : goal.returns-clause-well_formed
unfolding reading
returns-clause-well_formed c = reads_well c.args.options (chars c.args.text.now) (tokens_of c.in_ok-tokens.field-0.items) (scalars-chars c.args.text.now c.utf8.text) (search rules)
