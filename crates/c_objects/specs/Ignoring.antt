-- Ignore files: what numbers stand for, and what is told.
use Rattle.std.specs.Prelude.{ℕ, ◌-◌, ◌<◌, ◌==◌, Bool, true, false, not, List, [], ◌∷◌, Option, Some, None, drop, length, map, take, if◌then◌else◌}
use Rattle.std.specs.Str.{bytes_eq}
use Rattle.git_ignore.specs.StackValue.{StackValue, stack_rule}
use Rattle.git_ignore.specs.declared.decision.DecideBy.{DecideBy}
use Rattle.git_ignore.specs.declared.decision.DecideBy.TheVariants.{Git, Nearest, PathAlone}
use Rattle.git_ignore.specs.declared.decision.DecidingRule.{DecidingRule}
use Rattle.c_objects.specs.Paths.{paths_from}
use Rattle.c_objects.specs.declared.ignored.ToldRule.{ToldRule}

-- each bit stands for an option
abbrev pub AreIgnoreOptions : ℕ → Type 0
AreIgnoreOptions n = n < 2

-- the option to ignore case is set
abbrev pub ignores_case : ℕ → Bool
ignores_case n = n == 1

-- the number stands for a variant of `DecideBy`
abbrev pub IsDecideBy : ℕ → Type 0
IsDecideBy n = n < 3

-- the variant that the number stands for
abbrev pub decide_by : ℕ → DecideBy
decide_by n = if n == 0 then Git else (if n == 1 then Nearest else PathAlone)

-- the rule that decides about a path, of a folder if the number is not 0
abbrev pub rule_for : StackValue → ℕ → List ℕ → ℕ → Option DecidingRule
rule_for s by path is_folder = stack_rule s (decide_by by) path (not (is_folder == 0))

-- the rule ignores the path
abbrev pub ignores : Option DecidingRule → Bool
ignores None = false
ignores (Some rule) = not rule.is_negated

-- the index of the rule's file, or 0 without a rule
abbrev pub file_told : Option DecidingRule → ℕ
file_told None = 0
file_told (Some rule) = rule.file

-- the number of the rule's line, from 1, or 0 without a rule
abbrev pub line_told : Option DecidingRule → ℕ
line_told None = 0
line_told (Some rule) = rule.line

-- 0 if no rule decides, 1 if the rule ignores the path, and 2 if it keeps the path
abbrev pub decision_byte : Option DecidingRule → ℕ
decision_byte None = 0
decision_byte (Some rule) = if rule.is_negated then 2 else 1

-- the rule's file, its line and the decision
abbrev pub told_rule : Option DecidingRule → ToldRule
told_rule rule = record { file = file_told rule; line = line_told rule; decision = decision_byte rule }

-- the path ends with `/`
abbrev pub ends_with_slash : List ℕ → Bool
ends_with_slash path = bytes_eq (drop (length path - 1) path) (47 ∷ [])

-- The rule that decides about one of many paths. One that ends with `/` is of a folder, and the `/` does not belong to it.
abbrev pub path_rule : StackValue → ℕ → List ℕ → Option DecidingRule
path_rule s by path = if ends_with_slash path then stack_rule s (decide_by by) (take (length path - 1) path) true else stack_rule s (decide_by by) path false

-- the rule that decides about each path
abbrev pub path_rules : StackValue → ℕ → List ℕ → ℕ → List ℕ → List (Option DecidingRule)
path_rules s by bytes start ends = map (path_rule s by) (paths_from bytes start ends)

-- the decision about each path
abbrev pub decisions_for : StackValue → ℕ → List ℕ → ℕ → List ℕ → List ℕ
decisions_for s by bytes start ends = map decision_byte (path_rules s by bytes start ends)

-- the rule that decides about each path, as C sees it
abbrev pub rules_for : StackValue → ℕ → List ℕ → ℕ → List ℕ → List ToldRule
rules_for s by bytes start ends = map told_rule (path_rules s by bytes start ends)
