use Rattle.std.proofs.Common.{◌≡◌, zero, [], ◌∷◌, ◌++◌, drop, arith, sym, subst}
use Rattle.std.proofs.lemmas.List.{map_push}
use Rattle.glob_syntax.specs.inner.LexemeViews.{NoCloser, lexeme_of, lexemes_of}
use Rattle.glob_syntax.specs.Lexemes.{lexemes}
use Rattle.glob_syntax.specs.Nesting.{nested}
use Rattle.glob_syntax.proofs.lemmas.Lists.{one_cell}
use Rattle.glob_syntax.proofs.lemmas.UnclosedClasses.{no_closer_next}
use Rattle.glob_syntax.proofs.lemmas.Lexemes.{goes_on, stops, ends_open, ends}
use Rattle.glob_syntax.proofs.lexemes.lex.Goals as goal

pub returns-in-Err : goal.returns-in-Err
returns-in-Err c =
    let total = nested zero (lexemes c.args.options zero c.args.text.now) in
    stops (lexemes_of c.loop-rest.out.items) c.args.options c.loop-rest.depth c.loop-rest.rest.now total c.loop-rest.invariant.read _ _ _ _ _
    (one_cell c.loop-rest.rest.now c.c-item.result c.in-len1-up.len_at_least c.c-item.is) c.lexeme_at-more.ensures.value c.in-Err.ensures.value

pub loop-rest-preserved : goal.loop-rest-preserved
loop-rest-preserved c =
    let total = nested zero (lexemes c.args.options zero c.args.text.now) in
    let pushed : lexemes_of c.push.new.self.items ≡ lexemes_of c.loop-rest.out.items ++ lexeme_of c.in-Ok.kept.1 ∷ [] = rw c.in_ok-push-in-Ok.ensures.items (map_push _ c.loop-rest.out.items c.in-Ok.kept.1) in
    let next = goes_on (lexemes_of c.loop-rest.out.items) c.args.options c.loop-rest.depth c.loop-rest.rest.now total c.loop-rest.invariant.read _ _ _ _ _ _
    (one_cell c.loop-rest.rest.now c.c-item.result c.in-len1-up.len_at_least c.c-item.is) c.lexeme_at-more.ensures.value c.in-Ok.ensures.value in
    record {
      read = rw (pushed, c.split_at.ensures.back) next;
      known = λ f. subst (λ l. NoCloser (drop 2 l)) (sym c.split_at.ensures.back) (no_closer_next c.lexeme_at-more.result.1 _ (c.lexeme_at-more.ensures.known f));
      fits = omega (arith, c.in-Ok.ensures.one_more);
    }

pub returns-then-depth-gt0 : goal.returns-then-depth-gt0
returns-then-depth-gt0 c =
    let total = nested zero (lexemes c.args.options zero c.args.text.now) in
    ends_open (lexemes_of c.loop-rest.out.items) c.args.options c.loop-rest.depth c.loop-rest.rest.now total c.loop-rest.invariant.read (omega arith) c.if-depth-gt0.true

pub returns : goal.returns
returns c =
    let total = nested zero (lexemes c.args.options zero c.args.text.now) in
    ends (lexemes_of c.loop-rest.out.items) c.args.options c.loop-rest.depth c.loop-rest.rest.now total c.loop-rest.invariant.read (omega arith) (omega arith)
