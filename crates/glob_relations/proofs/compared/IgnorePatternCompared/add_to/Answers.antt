use Rattle.std.proofs.Common.{ℕ, List, [], ◌∷◌, ◌++◌, subst, sym}
use Rattle.std.specs.Prelude.{map}
use Rattle.ignore_pattern.specs.Compared.{IndexedPattern, Compares}
use Rattle.ignore_pattern.specs.Patterns.{Pattern, pattern_matches}
use Rattle.glob_relations.specs.inner.Automata.{IsFor}
use Rattle.glob_relations.proofs.lemmas.Automata.{map_last, pattern_of_item, patterns_for}
use Rattle.glob_relations.proofs.lemmas.Indexes.{on_ok_more}
use Rattle.glob_relations.proofs.compared.IgnorePatternCompared.add_to.Goals as goal

pub returns-clause-added : goal.returns-clause-added
returns-clause-added c =
    let case = c.args.ignore_case in
    let old = c.args.builder.now in
    let new = c.add_pattern.new.builder in
    let x : Pattern × ℕ = (c.args.self.now, c.args.index) in
    on_ok_more
    ((xs : List IndexedPattern) → Compares case xs old → Compares case (xs ++ pattern_of_item x ∷ []) new)
    ((xs : List (Pattern × ℕ)) → IsFor (pattern_matches case) xs old → IsFor (pattern_matches case) (xs ++ x ∷ []) new)
    c.add_pattern.result
    (λ added xs is. (patterns_for case (xs ++ x ∷ []) new).0
    (subst (λ (ys : List IndexedPattern). Compares case ys new) (sym (map_last pattern_of_item xs x)) (added (map pattern_of_item xs) ((patterns_for case xs old).1 is))))
    c.add_pattern.ensures.added
