-- Globs that a key decides.
use Rattle.std.proofs.Common.{◌≡◌, Bool, true, false, IsTrue, refl, ap, sym, ◌∙◌, subst}
use Rattle.std.specs.Prelude.{◌↔◌, if◌then◌else◌}
use Rattle.glob_syntax.specs.declared.options.Options.{Options}
use Rattle.glob_syntax.specs.Token.{Tokens}
use Rattle.glob_path.specs.declared.key.Key as declared
use Rattle.glob_path.specs.Key.{KeyValue, KeyMatches, key_seen}
use Rattle.glob_strategy.specs.Excluded.{are_excluded}
use Rattle.glob_strategy.specs.Strategies.{Excluded, Key, automaton_strategy, sensitive_strategy, strategy_of_tokens}
use Rattle.glob_strategy.specs.StrategyMeaning.{IsStrategyOf}
use Rattle.glob_strategy.specs.declared.strategy.MatchStrategy.TheVariants as held
use Rattle.glob_strategy.specs.inner.DecidedByKey.{IsDecidedBy}
use Rattle.glob_strategy.proofs.lemmas.Below.{IsShaped, key_tells_below, path_tells_below}
use Rattle.glob_strategy.proofs.lemmas.Strategies.{listed_means, shaped}
use Rattle.bit_sets.proofs.lemmas.Booleans.{iff_trans}

-- such a glob is not excluded
not_excluded : (o : Options) (ts : Tokens) (key : KeyValue) → Key key ≡ strategy_of_tokens o ts → are_excluded o ts ≡ false
unfolding strategy_of_tokens
not_excluded o ts key is = by_case (are_excluded o ts) refl
  where
    by_case : (b : Bool) → are_excluded o ts ≡ b → b ≡ false
    by_case true e = let no : Key key ≡ Excluded = is ∙ ap (λ b. if b then Excluded else (if o.case_insensitive then automaton_strategy o ts else sensitive_strategy o ts)) e in absurd (cc)
    by_case false e = refl

-- so its key tells which paths it matches
pub decided : (o : Options) (ts : Tokens) (key : declared.Key) → IsStrategyOf o ts (held.Key key) → IsDecidedBy o ts (key_seen key)
decided o ts key is =
    let loud = not_excluded o ts (key_seen key) is.in_table in
    let shape = subst (IsShaped o ts) (sym is.in_table) (shaped o ts) in record {
      matches = λ path. subst (λ b. IsTrue b ↔ KeyMatches (key_seen key) path) (listed_means o ts path loud) (is.tells path);
      below = λ folder.
          let listed = path_tells_below o ts folder (λ path. listed_means o ts path loud) in
          iff_trans (listed.1, listed.0) (key_tells_below o ts folder (key_seen key) is.bytes shape is.tells);
    }
