use Rattle.std.proofs.Common.{◌≡◌, true, get_or, ◌∷◌, ◌++◌, [], ◌-◌, length, take, drop, sym, ap, ◌∙◌, arith}
use Rattle.glob_syntax.specs.declared.token.Token.TheVariants.{RecursivePrefix}
use Rattle.glob_syntax.specs.Views.{flats}
use Rattle.glob_syntax.specs.inner.LexemeViews.{lexeme_of, lexemes_of}
use Rattle.glob_syntax.specs.inner.TokenReading.{ReadsTo}
use Rattle.std.proofs.lemmas.List.{length-map}
use Rattle.bit_sets.proofs.lemmas.Cuts.{head_cell}
use Rattle.glob_syntax.proofs.lemmas.SetMatcher.{lexemes_after, reads_both, whole_run, finish, nested_at_end}
use Rattle.glob_syntax.proofs.groups.tokens.Goals as goal

pub returns-then-is_whole_run-clause-value : goal.returns-then-is_whole_run-clause-value
returns-then-is_whole_run-clause-value c =
    whole_run (flats c.push.new.self.items) (lexemes_of c.args.lexemes.now) (ap flats (c.in_ok-push.ensures.items ∙ ap (λ l. l ++ RecursivePrefix ∷ []) c.in_ok-tokens.ensures.items))
    (sym c.is_whole_run.ensures ∙ c.if-is_whole_run.true)

pub loop-rest-preserved : goal.loop-rest-preserved
loop-rest-preserved c =
    let all = lexemes_of c.args.lexemes.now in
    let ts = flats c.loop-rest.tokens.items in
    let us = flats c.push_lexeme.new.tokens.items in
    let rest = c.loop-rest.rest.now in
    let lexeme = get_or rest 0 _ in
    let others = take (length rest - 1) (drop 1 rest) in
    let more = c.in_ok-more.more in
    let left : lexemes_of c.after-rest.result.now ≡ drop more (lexemes_of others) = ap lexemes_of c.after-rest.ensures ∙ lexemes_after more others in
    let cell : lexemes_of rest ≡ lexeme_of lexeme ∷ lexemes_of others = ap lexemes_of (head_cell rest _ c.in-len1-up.len_at_least) in
    let was : ReadsTo [] true all ts c.loop-rest.start (lexeme_of lexeme ∷ lexemes_of others) = rw cell at c.loop-rest.invariant in
    rw (left, c.starts_branch-start.ensures) (reads_both all ts us c.loop-rest.start _ _ _ was c.in_ok-more.ensures.read)

pub returns-clause-value : goal.returns-clause-value
returns-clause-value c =
    finish (flats c.loop-rest.tokens.items) c.loop-rest.start (lexemes_of c.loop-rest.rest.now) (lexemes_of c.args.lexemes.now) (rw length-map (omega arith)) c.loop-rest.invariant
    (sym c.is_whole_run.ensures ∙ c.if-is_whole_run.false)

pub returns-clause-nested : goal.returns-clause-nested
returns-clause-nested c =
    nested_at_end (flats c.loop-rest.tokens.items) c.loop-rest.start (lexemes_of c.loop-rest.rest.now) (lexemes_of c.args.lexemes.now) (rw length-map (omega arith)) c.loop-rest.invariant
