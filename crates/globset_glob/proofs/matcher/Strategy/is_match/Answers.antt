use Rattle.std.proofs.Common.{[], ◌∷◌, ◌≤◌, ◌+◌, ◌*◌, length, ap, ◌∙◌, subst, sym, arith}
use Rattle.std.proofs.Math.Nat.{mul-le-mul_left}
use Rattle.std.proofs.lemmas.Result.{IfOk-weaker}
use Rattle.byte_nfa.specs.Runs.{max_reads}
use Rattle.bit_sets.specs.Texts.{AllBytes}
use Rattle.glob_strategy.specs.IndexedTokens.{indexed}
use Rattle.glob_strategy.proofs.lemmas.IndexedTokens.{has_matches}
use Rattle.bit_sets.proofs.lemmas.Booleans.{iff_trans}
use Rattle.glob_text.specs.GlobMatches.{tokens_of_glob, glob_matches}
use Rattle.glob_text.specs.Cost.{cost}
use Rattle.globset_glob.specs.declared.matcher.Strategy.{Strategy}
use Rattle.globset_glob.specs.inner.GlobNfa.{IsAutomatonOf, IsStrategyOfMatcher}
use Rattle.globset_glob.proofs.lemmas.GlobNfa.{key_matches_glob, one_matches, one_visit}
use Rattle.globset_glob.proofs.matcher.Strategy.is_match.Goals as goal

pub returns-in-Key-clause-some : goal.returns-in-Key-clause-some
returns-in-Key-clause-some c = λ g is.
    let strategy = subst (λ (f : Strategy). IsStrategyOfMatcher g f) c.in-Key.is is in
    key_matches_glob g c.args.path.now c.matches.result c.matches.ensures (strategy.matches c.args.path.now)

pub returns-in-Key-clause-visits : goal.returns-in-Key-clause-visits
returns-in-Key-clause-visits c = λ g is. omega (arith, c.tick.ensures, one_visit g c.args.path.now)

pub returns-in-Automaton-clause-some : goal.returns-in-Automaton-clause-some
returns-in-Automaton-clause-some c =
    IfOk-weaker c.is_match.result _ _ (λ yes some g is.
    let strategy = subst (λ m. IsAutomatonOf g m) (sym c.deref.ensures) (subst (λ (f : Strategy). IsStrategyOfMatcher g f) c.in-Automaton.is is) in
    let path = c.bytes_of.result.now in
    let bytes = subst AllBytes (sym c.bytes_of.ensures.same) c.bytes_of.ensures.bytes in
    one_matches g path yes (iff_trans some (has_matches c.deref.result.now (indexed g.options (tokens_of_glob g) 0 ∷ []) path strategy.tokens bytes)) ∙ ap (λ p. glob_matches g p) (c.bytes_of.ensures.same ∙ c.path.ensures)) c.is_match.ensures.some

pub returns-in-Automaton-clause-visits : goal.returns-in-Automaton-clause-visits
returns-in-Automaton-clause-visits c = λ g is.
    let strategy = subst (λ m. IsAutomatonOf g m) (sym c.deref.ensures) (subst (λ (f : Strategy). IsStrategyOfMatcher g f) c.in-Automaton.is is) in
    let positions = length c.bytes_of.result.now + 1 in
    let all : positions * max_reads c.deref.result.now ≤ positions * cost g = mul-le-mul_left positions strategy.reads in
    omega (arith, c.is_match.ensures.visits, all, ap (λ p. (length p + 1) * cost g) (c.bytes_of.ensures.same ∙ c.path.ensures))
