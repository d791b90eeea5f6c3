-- The strategies for globs: which one is found, and what it says.
use Rattle.std.proofs.Common.{◌≡◌, ℕ, ◌⊎◌, Bool, true, false, true≢false, not, ◌&&◌, List, [], ◌∷◌, ◌++◌, Option, Some, None, IsTrue, refl, ap, sym, ◌∙◌, subst}
use Rattle.std.specs.Prelude.{◌↔◌, if◌then◌else◌}
use Rattle.glob_syntax.specs.declared.options.Options.{Options}
use Rattle.glob_syntax.specs.Token.{Tokens}
use Rattle.glob_syntax.specs.TokenMatches.{slash}
use Rattle.glob_syntax.specs.TokensMatch.{tokens_match}
use Rattle.glob_path.specs.PathParts.{last_component, component_extension}
use Rattle.glob_strategy.specs.Excluded.{are_excluded, are_reported}
use Rattle.glob_strategy.specs.TokenTests.{literal_text, ending, is_whole_path, is_last_components, is_end, is_beginning, is_below_folder}
use Rattle.glob_strategy.specs.Strategies.{StrategyValue, Excluded, BasenameRegex, Regex, is_last_component, is_any_extension, is_by_last_component, automaton_strategy, ending_strategy, sensitive_strategy, strategy_of_tokens}
use Rattle.glob_strategy.specs.Below.{HasBytes}
use Rattle.glob_strategy.specs.StrategyMeaning.{strategy_seen, StrategyIsSound, runs_automaton, has_automaton, IsStrategyOf}
use Rattle.glob_strategy.specs.Direct.{is_direct, has_ending, needs_automaton}
use Rattle.glob_strategy.specs.declared.strategy.MatchStrategy.{MatchStrategy}
use Rattle.glob_strategy.proofs.lemmas.BeforeEnding.{before_ending_means}
use Rattle.glob_strategy.proofs.lemmas.Below.{IsShaped, sound_below}
use Rattle.glob_strategy.proofs.lemmas.Direct.{insensitive_not_direct, other_not_direct, ending_needs, insensitive_needs}
use Rattle.glob_strategy.proofs.lemmas.EndMeaning.{last_components_means, end_means, beginning_means, below_folder_means}
use Rattle.glob_strategy.proofs.lemmas.TokenMeaning.{whole_path_means, last_component_means, any_extension_means, ending_required, by_last_component_means, last_component_lacks, by_last_component_lacks, any_extension_is}

-- ---- choices by a test

-- what holds of each result, where it is chosen, holds of the choice
of_choice : {A : Type 0} (C : A → Type 0) (a : Bool) (x y : A) → (a ≡ true → C x) → (a ≡ false → C y) → C (if a then x else y)
of_choice C true x y first second = first refl
of_choice C false x y first second = second refl

-- a row of the table whose test, as the program made it, holds
pub row_fits : {A : Type 0} {found flat tree : Bool} {strategy : A} (x y : A) → flat ≡ tree → found ≡ flat → found ≡ true → strategy ≡ x → strategy ≡ (if tree then x else y)
row_fits x y same made h e = e ∙ ap (λ b. if b then x else y) (sym h ∙ made ∙ same)

-- and one whose test fails
pub row_fails : {A : Type 0} {found flat tree : Bool} {strategy : A} (x y : A) → flat ≡ tree → found ≡ flat → found ≡ false → strategy ≡ y → strategy ≡ (if tree then x else y)
row_fails x y same made h e = e ∙ ap (λ b. if b then x else y) (sym h ∙ made ∙ same)

-- ---- the strategy for a glob

pub excluded_found : (o : Options) (ts : Tokens) → are_excluded o ts ≡ true → Excluded ≡ strategy_of_tokens o ts
unfolding strategy_of_tokens
excluded_found o ts h = rw h refl

pub insensitive_found : (o : Options) (ts : Tokens) (strategy : StrategyValue) → are_excluded o ts ≡ false → o.case_insensitive ≡ true → strategy ≡ automaton_strategy o ts → strategy ≡ strategy_of_tokens o ts
unfolding strategy_of_tokens
insensitive_found o ts strategy loud on e = e ∙ rw (loud, on) refl

pub sensitive_found : (o : Options) (ts : Tokens) (strategy : StrategyValue) → are_excluded o ts ≡ false → o.case_insensitive ≡ false → strategy ≡ sensitive_strategy o ts → strategy ≡ strategy_of_tokens o ts
unfolding strategy_of_tokens
sensitive_found o ts strategy loud off e = e ∙ rw (loud, off) refl

-- ---- what it says

-- a glob that is not excluded is reported for the paths that it matches
pub listed_means : (o : Options) (ts : Tokens) (path : List ℕ) → are_excluded o ts ≡ false → are_reported o ts path ≡ tokens_match o ts path
listed_means o ts path loud = ap (λ b. not b && tokens_match o ts path) loud

automaton_tells : (o : Options) (ts : Tokens) (path : List ℕ) → are_excluded o ts ≡ false → StrategyIsSound (automaton_strategy o ts) o ts path
automaton_tells o ts path loud = by_case (is_by_last_component o ts) refl
  where
    by_case : (b : Bool) → is_by_last_component o ts ≡ b → StrategyIsSound (if b then BasenameRegex else Regex) o ts path
    by_case true h = listed_means o ts path loud ∙ by_last_component_means o path ts h
    by_case false h = listed_means o ts path loud

ending_tells : (o : Options) (ts : Tokens) (path : List ℕ) → are_excluded o ts ≡ false → o.case_insensitive ≡ false → is_last_component ts ≡ false → (last : Option (List ℕ)) → ending ts ≡ last
    → StrategyIsSound (ending_strategy o ts last) o ts path
ending_tells o ts path loud off other (Some key) e = (
  λ yes. ending_required o ts path key off e (sym (listed_means o ts path loud) ∙ yes),
  λ front at. listed_means o ts path loud ∙ before_ending_means o ts path key front off other e at,
)
ending_tells o ts path loud off other None e = automaton_tells o ts path loud

sensitive_tells : (o : Options) (ts : Tokens) (path : List ℕ) → are_excluded o ts ≡ false → o.case_insensitive ≡ false → StrategyIsSound (sensitive_strategy o ts) o ts path
sensitive_tells o ts path loud off =
    of_choice C (is_whole_path ts) _ _ (λ h. subst (λ b. IsTrue b ↔ (path ≡ literal_text ts)) (sym same) (whole_path_means o ts path off h)) (λ a.
    of_choice C (is_last_component ts) _ _ (λ h. subst (λ b. IsTrue b ↔ (last_component path ≡ literal_text ts)) (sym same) (last_component_means o path off ts h)) (λ b.
    of_choice C (is_last_components ts) _ _ (λ h. subst (λ b. IsTrue b ↔ ((path ≡ literal_text ts) ⊎ ((front : List ℕ) × (front ++ slash ∷ literal_text ts ≡ path)))) (sym same) (last_components_means o path off ts h)) (λ c.
    of_choice C (is_any_extension o ts) _ _ (λ h. subst (λ b. IsTrue b ↔ (component_extension path ≡ literal_text ts)) (sym same) (any_extension_means o path off ts h)) (λ d.
    of_choice C (is_end o ts) _ _ (λ h. subst (λ b. IsTrue b ↔ ((front : List ℕ) × (front ++ literal_text ts ≡ path))) (sym same) (end_means o path off ts h)) (λ e.
    of_choice C (is_beginning o ts) _ _ (λ h. subst (λ b. IsTrue b ↔ ((rest : List ℕ) × (literal_text ts ++ rest ≡ path))) (sym same) (beginning_means o path off ts h)) (λ f.
    of_choice C (is_below_folder ts) _ _ (λ h. subst (λ b. IsTrue b ↔ ((rest : List ℕ) × ((literal_text ts ++ slash ∷ []) ++ rest ≡ path))) (sym same) (below_folder_means o path off ts h)) (λ g.
    ending_tells o ts path loud off b (ending ts) refl)))))))
  where
    same : are_reported o ts path ≡ tokens_match o ts path
    same = listed_means o ts path loud

    C : StrategyValue → Type 0
    C s = StrategyIsSound s o ts path

tells_of : (o : Options) (ts : Tokens) (path : List ℕ) → StrategyIsSound (strategy_of_tokens o ts) o ts path
unfolding strategy_of_tokens
tells_of o ts path =
    of_choice (λ s. StrategyIsSound s o ts path) (are_excluded o ts) _ _ (λ h. ap (λ b. not b && tokens_match o ts path) h) (λ loud.
    of_choice (λ s. StrategyIsSound s o ts path) o.case_insensitive _ _ (λ on. automaton_tells o ts path loud) (sensitive_tells o ts path loud))

-- ---- when it has an automaton run

-- where this strategy has one run, the glob needs one
abbrev RunsNeeded : Options → Tokens → List ℕ → StrategyValue → Type 0
RunsNeeded o ts path strategy = runs_automaton strategy path ≡ true → needs_automaton o ts path ≡ true

never_runs : (o : Options) (ts : Tokens) (path : List ℕ) → false ≡ true → needs_automaton o ts path ≡ true
never_runs o ts path h = absurd (true≢false (sym h))

ending_runs : (o : Options) (ts : Tokens) (path : List ℕ) → is_direct o ts ≡ false → (last : Option (List ℕ)) → ending ts ≡ last → RunsNeeded o ts path (ending_strategy o ts last)
ending_runs o ts path indirect (Some key) e = λ h. ending_needs o ts path indirect (ap (λ k. has_ending k path) e ∙ h)
ending_runs o ts path indirect None e = λ h. ending_needs o ts path indirect (ap (λ k. has_ending k path) e)

sensitive_runs : (o : Options) (ts : Tokens) (path : List ℕ) → RunsNeeded o ts path (sensitive_strategy o ts)
sensitive_runs o ts path =
    of_choice C (is_whole_path ts) _ _ (λ h. never) (λ a.
    of_choice C (is_last_component ts) _ _ (λ h. never) (λ b.
    of_choice C (is_last_components ts) _ _ (λ h. never) (λ c.
    of_choice C (is_any_extension o ts) _ _ (λ h. never) (λ d.
    of_choice C (is_end o ts) _ _ (λ h. never) (λ e.
    of_choice C (is_beginning o ts) _ _ (λ h. never) (λ f.
    of_choice C (is_below_folder ts) _ _ (λ h. never) (λ g.
    ending_runs o ts path (other_not_direct o ts a c d e f g) (ending ts) refl)))))))
  where
    C : StrategyValue → Type 0
    C = RunsNeeded o ts path

    never : false ≡ true → needs_automaton o ts path ≡ true
    never = never_runs o ts path

runs_of : (o : Options) (ts : Tokens) (path : List ℕ) → RunsNeeded o ts path (strategy_of_tokens o ts)
unfolding strategy_of_tokens
runs_of o ts path =
    of_choice (RunsNeeded o ts path) (are_excluded o ts) _ _ (λ h. never_runs o ts path) (λ h.
    of_choice (RunsNeeded o ts path) o.case_insensitive _ _ (λ on runs. insensitive_needs o ts path on) (λ off. sensitive_runs o ts path))

-- ---- whether it has one

-- where this strategy has one, the glob is not direct
abbrev IsIndirect : Options → Tokens → StrategyValue → Type 0
IsIndirect o ts strategy = has_automaton strategy ≡ true → is_direct o ts ≡ false

sensitive_indirect : (o : Options) (ts : Tokens) → IsIndirect o ts (sensitive_strategy o ts)
sensitive_indirect o ts =
    of_choice C (is_whole_path ts) _ _ (λ h. never) (λ a.
    of_choice C (is_last_component ts) _ _ (λ h. never) (λ b.
    of_choice C (is_last_components ts) _ _ (λ h. never) (λ c.
    of_choice C (is_any_extension o ts) _ _ (λ h. never) (λ d.
    of_choice C (is_end o ts) _ _ (λ h. never) (λ e.
    of_choice C (is_beginning o ts) _ _ (λ h. never) (λ f.
    of_choice C (is_below_folder ts) _ _ (λ h. never) (λ g has.
    other_not_direct o ts a c d e f g)))))))
  where
    C : StrategyValue → Type 0
    C = IsIndirect o ts

    never : false ≡ true → is_direct o ts ≡ false
    never h = absurd (true≢false (sym h))

indirect_of : (o : Options) (ts : Tokens) → IsIndirect o ts (strategy_of_tokens o ts)
unfolding strategy_of_tokens
indirect_of o ts =
    of_choice (IsIndirect o ts) (are_excluded o ts) _ _ (λ h has. absurd (true≢false (sym has))) (λ h.
    of_choice (IsIndirect o ts) o.case_insensitive _ _ (λ on has. insensitive_not_direct o ts on) (λ off. sensitive_indirect o ts))

-- ---- the shape of its tokens

automaton_shaped : (o : Options) (ts : Tokens) → IsShaped o ts (automaton_strategy o ts)
automaton_shaped o ts = of_choice (IsShaped o ts) (is_by_last_component o ts) _ _ (λ h b. by_last_component_lacks o b ts h) (λ h. tt)

ending_shaped : (o : Options) (ts : Tokens) (last : Option (List ℕ)) → IsShaped o ts (ending_strategy o ts last)
ending_shaped o ts (Some key) = tt
ending_shaped o ts None = automaton_shaped o ts

sensitive_shaped : (o : Options) (ts : Tokens) → IsShaped o ts (sensitive_strategy o ts)
sensitive_shaped o ts =
    of_choice C (is_whole_path ts) _ _ (λ h. tt) (λ a.
    of_choice C (is_last_component ts) _ _ (λ h. last_component_lacks ts h) (λ b.
    of_choice C (is_last_components ts) _ _ (λ h. tt) (λ c.
    of_choice C (is_any_extension o ts) _ _ (λ h. any_extension_is o ts h) (λ d.
    of_choice C (is_end o ts) _ _ (λ h. tt) (λ e.
    of_choice C (is_beginning o ts) _ _ (λ h. tt) (λ f.
    of_choice C (is_below_folder ts) _ _ (λ h. tt) (λ g.
    ending_shaped o ts (ending ts))))))))
  where
    C : StrategyValue → Type 0
    C = IsShaped o ts

pub shaped : (o : Options) (ts : Tokens) → IsShaped o ts (strategy_of_tokens o ts)
unfolding strategy_of_tokens
shaped o ts = of_choice (IsShaped o ts) (are_excluded o ts) _ _ (λ h. tt) (λ h. of_choice (IsShaped o ts) o.case_insensitive _ _ (λ on. automaton_shaped o ts) (λ off. sensitive_shaped o ts))

pub automaton_bytes : (o : Options) (ts : Tokens) (strategy : StrategyValue) → strategy ≡ automaton_strategy o ts → HasBytes strategy
automaton_bytes o ts strategy e = subst HasBytes (sym e) (of_choice HasBytes (is_by_last_component o ts) _ _ (λ h. tt) (λ h. tt))

pub is_strategy : (o : Options) (ts : Tokens) (strategy : MatchStrategy) → HasBytes (strategy_seen strategy) → strategy_seen strategy ≡ strategy_of_tokens o ts → IsStrategyOf o ts strategy
is_strategy o ts strategy has e = record {
  in_table = e;
  tells = λ path. subst (λ s. StrategyIsSound s o ts path) (sym e) (tells_of o ts path);
  automaton = λ path. subst (RunsNeeded o ts path) (sym e) (runs_of o ts path);
  indirect = subst (IsIndirect o ts) (sym e) (indirect_of o ts);
  bytes = has;
  below = λ folder bytes. sound_below o ts folder bytes (strategy_seen strategy) has (subst (IsShaped o ts) (sym e) (shaped o ts)) (λ path. subst (λ s. StrategyIsSound s o ts path) (sym e) (tells_of o ts path));
}
