use Rattle.std.proofs.Common.{[], ◌∷◌, ◌∙◌, ◌≤◌, ◌+◌, ◌*◌, length, ap, subst, sym, arith, IsTrue}
use Rattle.std.specs.Prelude.{◌↔◌}
use Rattle.std.proofs.Math.Nat.{mul-le-mul_left}
use Rattle.std.proofs.lemmas.Result.{IfOk-weaker}
use Rattle.byte_nfa.specs.Runs.{max_reads}
use Rattle.glob_path.specs.Below.{folder_start}
use Rattle.glob_strategy.specs.IndexedTokens.{indexed}
use Rattle.glob_strategy.proofs.lemmas.IndexedTokens.{after_matches}
use Rattle.bit_sets.specs.Texts.{AllBytes}
use Rattle.bit_sets.proofs.lemmas.Texts.{both_bytes}
use Rattle.bit_sets.proofs.lemmas.Booleans.{iff_trans}
use Rattle.glob_text.specs.GlobMatches.{tokens_of_glob}
use Rattle.glob_text.specs.Cost.{cost}
use Rattle.globset_glob.specs.GlobBelow.{GlobMatchesBelow}
use Rattle.globset_glob.specs.declared.matcher.Strategy.{Strategy}
use Rattle.globset_glob.specs.inner.GlobNfa.{IsAutomatonOf, IsStrategyOfMatcher}
use Rattle.globset_glob.proofs.lemmas.GlobNfa.{key_matches_below, one_matches_below, one_visit_below}
use Rattle.globset_glob.proofs.matcher.Strategy.can_match_below.Goals as goal

pub returns-in-Key-clause-some : goal.returns-in-Key-clause-some
returns-in-Key-clause-some c = λ g is.
    let strategy = subst (λ (f : Strategy). IsStrategyOfMatcher g f) c.in-Key.is is in
    subst (λ p. IsTrue c.can_match_below.result ↔ GlobMatchesBelow g p) c.path.ensures
    (key_matches_below g c.path.result.now c.can_match_below.result c.can_match_below.ensures (strategy.below c.path.result.now))

pub returns-in-Key-clause-visits : goal.returns-in-Key-clause-visits
returns-in-Key-clause-visits c = λ g is. omega (arith, c.tick.ensures, one_visit_below g c.args.folder.now)

pub returns-in-Automaton-clause-some : goal.returns-in-Automaton-clause-some
returns-in-Automaton-clause-some c =
    IfOk-weaker c.can_match_after.result _ _ (λ yes some g is.
    let strategy = subst (λ m. IsAutomatonOf g m) (sym c.deref.ensures) (subst (λ (f : Strategy). IsStrategyOfMatcher g f) c.in-Automaton.is is) in
    let folder = c.bytes_of.result.now in
    let all = subst AllBytes (sym c.bytes_of.ensures.same) c.bytes_of.ensures.bytes in
    let bytes = both_bytes folder (47 ∷ []) all (omega arith, tt) in
    subst (λ p. IsTrue yes ↔ GlobMatchesBelow g p) (c.bytes_of.ensures.same ∙ c.path-in-Automaton.ensures)
    (one_matches_below g folder yes (iff_trans some (after_matches c.deref.result.now (indexed g.options (tokens_of_glob g) 0 ∷ []) (folder_start folder) strategy.tokens bytes)))) c.can_match_after.ensures.some

pub returns-in-Automaton-clause-visits : goal.returns-in-Automaton-clause-visits
returns-in-Automaton-clause-visits c = λ g is.
    let strategy = subst (λ m. IsAutomatonOf g m) (sym c.deref.ensures) (subst (λ (f : Strategy). IsStrategyOfMatcher g f) c.in-Automaton.is is) in
    let positions = length c.bytes_of.result.now + 2 in
    let few : max_reads c.deref.result.now ≤ cost g = omega (arith, strategy.reads) in
    let all : positions * max_reads c.deref.result.now ≤ positions * cost g = mul-le-mul_left positions few in
    omega (arith, c.can_match_after.ensures.visits, all, ap (λ p. (length p + 2) * cost g) (c.bytes_of.ensures.same ∙ c.path-in-Automaton.ensures))
