use Rattle.std.proofs.Common.{◌≡◌, ℕ, List, [], ◌∷◌, ◌++◌, ap, subst, sym, ◌∙◌}
use Rattle.std.specs.Prelude.{map}
use Rattle.byte_nfa.specs.Steps.{NfaValue}
use Rattle.glob_strategy.specs.IndexedTokens as tokens
use Rattle.glob_syntax.specs.Views.{tokens_of}
use Rattle.glob_text.specs.GlobMatches.{GlobValue, glob_matches}
use Rattle.glob_relations.specs.inner.Automata.{IsFor}
use Rattle.glob_relations.proofs.lemmas.Automata.{globs_for, map_last, tokens_of_item, same_item}
use Rattle.glob_relations.proofs.lemmas.Indexes.{on_ok_more}
use Rattle.glob_relations.proofs.compared.GlobCompared.add_to.Goals as goal

pub returns-clause-added : goal.returns-clause-added
returns-clause-added c =
    let old : NfaValue = c.args.builder.now in
    let new : NfaValue = c.add_tokens.new.builder in
    let x : GlobValue × ℕ = (c.args.self.now, c.args.index) in
    let t : tokens.IndexedTokens = tokens.indexed c.options_of.result (tokens_of c.flat_tokens_of.result.now) c.args.index in
    let same : t ≡ tokens_of_item x = same_item c.args.self.now c.options_of.result (tokens_of c.flat_tokens_of.result.now) c.args.index c.options_of.ensures c.flat_tokens_of.ensures.tokens in
    on_ok_more
    ((xs : List tokens.IndexedTokens) → tokens.IsFor old xs → tokens.IsFor new (xs ++ t ∷ []))
    ((xs : List (GlobValue × ℕ)) → IsFor glob_matches xs old → IsFor glob_matches (xs ++ x ∷ []) new)
    c.add_tokens.result
    (λ added xs is. (globs_for (xs ++ x ∷ []) new).0
    (subst (tokens.IsFor new) (ap (λ (u : tokens.IndexedTokens). map tokens_of_item xs ++ u ∷ []) same ∙ sym (map_last tokens_of_item xs x)) (added (map tokens_of_item xs) ((globs_for xs old).1 is))))
    c.add_tokens.ensures.tokens
