use Rattle.std.proofs.Common.{rules, ◌≡◌, ◌∷◌, true, false, ap, ◌∙◌}
use Rattle.glob_syntax.specs.declared.token.Token.TheVariants.{Open, Comma, Close}
use Rattle.std.proofs.lemmas.Result.{IfOk-weaker}
use Rattle.glob_syntax.specs.Lexemes as lexemes
use Rattle.glob_syntax.specs.Stars.{piece}
use Rattle.glob_syntax.specs.Views.{flats}
use Rattle.glob_syntax.specs.inner.Nests.{is_inner, starts_branch}
use Rattle.glob_syntax.specs.inner.TokenReading.{Follows}
use Rattle.glob_syntax.specs.inner.LexemeViews.{lexeme_of, lexemes_of, Adds}
use Rattle.glob_syntax.proofs.lemmas.FlatTokens.{flats_push}
use Rattle.glob_syntax.proofs.lemmas.SetMatcher.{read_open, read_comma, read_close, read_piece}
use Rattle.glob_syntax.proofs.lemmas.Nesting.{nests_bad}
use Rattle.glob_syntax.proofs.groups.push_lexeme.Goals as goal

pub unreachable-requires : goal.unreachable-requires
unreachable-requires c =
    let h : Follows (flats c.args.tokens.now.items) (lexemes.Bad c.in-Bad.field-0 ∷ lexemes_of c.args.position.after.now) = rw c.in-Bad.is at c.requires in
    nests_bad _ _ _ h.closed

pub returns-in_ok-push-in-Open-clause-read : goal.returns-in_ok-push-in-Open-clause-read
returns-in_ok-push-in-Open-clause-read c =
    let ts = c.args.tokens.now.items in
    rw c.in-Open.is
    (read_open (flats ts) (flats c.push.new.self.items) c.args.position.start (lexemes_of c.args.position.after.now)
    (ap flats c.in_ok-push-in-Open.ensures.items ∙ flats_push ts Open) (rw c.in-Open.is at c.requires))

pub returns-in_ok-push-in-Comma-clause-read : goal.returns-in_ok-push-in-Comma-clause-read
returns-in_ok-push-in-Comma-clause-read c =
    let ts = c.args.tokens.now.items in
    rw c.in-Comma.is
    (read_comma (flats ts) (flats c.push-in-Comma.new.self.items) c.args.position.start (lexemes_of c.args.position.after.now)
    (ap flats c.in_ok-push-in-Comma.ensures.items ∙ flats_push ts Comma) (rw c.in-Comma.is at c.requires))

pub returns-in_ok-push-in-Close-clause-read : goal.returns-in_ok-push-in-Close-clause-read
returns-in_ok-push-in-Close-clause-read c =
    let ts = c.args.tokens.now.items in
    rw c.in-Close.is
    (read_close (flats ts) (flats c.push-in-Close.new.self.items) c.args.position.start (lexemes_of c.args.position.after.now)
    (ap flats c.in_ok-push-in-Close.ensures.items ∙ flats_push ts Close) (rw c.in-Close.is at c.requires))

pub returns-in_default-clause-read : goal.returns-in_default-clause-read
returns-in_default-clause-read c =
    let ts = flats c.args.tokens.now.items in
    let m = lexeme_of c.args.position.lexeme in
    let ms = lexemes_of c.args.position.after.now in
    let inner : is_inner m ≡ true = search rules in
    let starts : starts_branch m ≡ false = search rules in
    rw starts
    (IfOk-weaker c.push_piece.result (Adds c.args.tokens.now.items c.push_piece.new.out.items (piece c.args.position.start m ms)) _
    (λ more a. read_piece ts (flats c.push_piece.new.out.items) c.args.position.start ms m more inner a.tokens a.takes c.requires)
    c.push_piece.ensures.adds)
