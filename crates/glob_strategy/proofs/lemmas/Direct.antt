-- Which globs are direct, and which need an automaton for a path.
use Rattle.std.proofs.Common.{◌≡◌, ℕ, Bool, true, false, not, ◌&&◌, ◌||◌, List, refl, ◌∙◌}
use Rattle.std.proofs.lemmas.Bool.{or_parts}
use Rattle.glob_syntax.specs.declared.options.Options.{Options}
use Rattle.glob_syntax.specs.Token.{Tokens}
use Rattle.glob_syntax.specs.TokensMatch.{is_prefix}
use Rattle.bit_sets.proofs.lemmas.Booleans.{and_none}
use Rattle.glob_strategy.specs.TokenTests.{first_and_rest, ending, is_whole_path, is_last_components, is_star_extension, is_end, is_beginning, is_below_folder}
use Rattle.glob_strategy.specs.Strategies.{is_any_extension}
use Rattle.glob_strategy.specs.Direct.{is_direct, has_ending, needs_automaton}

-- a case-insensitive glob is not direct
pub insensitive_not_direct : (o : Options) (ts : Tokens) → o.case_insensitive ≡ true → is_direct o ts ≡ false
unfolding is_direct
insensitive_not_direct o ts on = rw on refl

-- neither is one whose tokens have none of the forms
pub other_not_direct : (o : Options) (ts : Tokens) → is_whole_path ts ≡ false → is_last_components ts ≡ false → is_any_extension o ts ≡ false → is_end o ts ≡ false
    → is_beginning o ts ≡ false → is_below_folder ts ≡ false → is_direct o ts ≡ false
unfolding is_direct
other_not_direct o ts a b c d e f =
    let g : first_and_rest is_prefix is_star_extension ts ≡ false = (or_parts (first_and_rest is_prefix is_star_extension ts) (not o.literal_separator && is_star_extension ts) c).0 in
    (λ i. not o.case_insensitive && (a i || (b i || (d i || (e i || (f i || g i)))))) ∙ and_none (not o.case_insensitive)

-- a glob that is not direct needs an automaton for the paths that have its ending
pub ending_needs : (o : Options) (ts : Tokens) (path : List ℕ) → is_direct o ts ≡ false → has_ending (ending ts) path ≡ true → needs_automaton o ts path ≡ true
unfolding needs_automaton
ending_needs o ts path indirect has = (λ i. not (indirect i) && (o.case_insensitive || has i)) ∙ either_way o.case_insensitive
  where
    either_way : (b : Bool) → (b || true) ≡ true
    either_way true = refl
    either_way false = refl

-- and a case-insensitive one for every path
pub insensitive_needs : (o : Options) (ts : Tokens) (path : List ℕ) → o.case_insensitive ≡ true → needs_automaton o ts path ≡ true
unfolding needs_automaton
insensitive_needs o ts path on = λ i. not (insensitive_not_direct o ts on i) && (on i || has_ending (ending ts) path)
