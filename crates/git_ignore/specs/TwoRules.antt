-- The rule that decides about a path and the folders above it, in three ways. Each is made from the rules that decide about paths
-- alone, `alone`: those of a file, or of several files together.
use Rattle.std.specs.Prelude.{ℕ, Bool, true, ◌==◌, List, [], ◌∷◌, Option, Some, None, map, if◌then◌else◌}
use Rattle.std.specs.Option.{option_or}
use Rattle.git_ignore.specs.declared.decision.DecideBy.{DecideBy}
use Rattle.git_ignore.specs.declared.decision.DecideBy.TheVariants.{Git, Nearest, PathAlone}
use Rattle.git_ignore.specs.declared.decision.DecidingRule.{DecidingRule}

-- the answer about the first of these that has any
abbrev pub first_answer : {X Y : Type 0} → (X → Option Y) → List X → Option Y
first_answer about [] = None
first_answer about (x ∷ xs) = option_or (about x) (first_answer about xs)

-- the answer about the last of these that has any
abbrev pub last_answer : {X Y : Type 0} → (X → Option Y) → List X → Option Y
last_answer about [] = None
last_answer about (x ∷ xs) = option_or (last_answer about xs) (about x)

-- the rule, if it ignores the path
abbrev pub ignoring : Option DecidingRule → Option DecidingRule
ignoring None = None
ignoring (Some rule) = if rule.is_negated then None else Some rule

-- the folders above a path, from the top, each without `/` at its end
abbrev pub folders_above : List ℕ → List (List ℕ)
folders_above [] = []
folders_above (c ∷ cs) = if c == 47 then [] ∷ map (λ folder. c ∷ folder) (folders_above cs) else map (λ folder. c ∷ folder) (folders_above cs)

-- the rule that ignores the highest ignored folder above the path
abbrev pub ignored_above : (List ℕ → Bool → Option DecidingRule) → List ℕ → Option DecidingRule
ignored_above alone path = first_answer (λ folder. ignoring (alone folder true)) (folders_above path)

-- The rule that decides about a path.
--
-- By git's rule, everything below an ignored folder is ignored, regardless of what is decided about it alone, and that a folder is
-- kept says nothing about its contents. By the nearest decision, it is the rule about the path, or if there is none, about the
-- nearest folder above it that has one: all that is below an ignored folder or a kept one has the folder's decision, except where a
-- deeper folder or the path has its own.
unfoldable pub deciding : DecideBy → (List ℕ → Bool → Option DecidingRule) → List ℕ → Bool → Option DecidingRule
deciding Git alone path is_folder = option_or (ignored_above alone path) (alone path is_folder)
deciding Nearest alone path is_folder = option_or (alone path is_folder) (last_answer (λ folder. alone folder true) (folders_above path))
deciding PathAlone alone path is_folder = alone path is_folder
