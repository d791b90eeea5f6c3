-- Rules, and the memory to decide with, as contracts see them.
use Rattle.std.specs.Prelude.{ℕ, ◌≤◌, Bool, List, Option}
use Rattle.git_ignore.specs.Rules.{deciding_rule}
use Rattle.git_ignore.specs.declared.decision.DecidingRule.{DecidingRule}

-- Options are seen as whether case is ignored, and as the most bytes of rows of a file, which have no effect on a decision.
pub record OptionsValue : Type 0 where
  pub ignore_case : Bool
  pub dfa_size_limit : ℕ

-- Rules are seen as the bytes of their file, whether case is ignored, and two numbers, which say how much memory deciding takes:
-- of the states of their automaton, and of the rules.
pub record RulesValue : Type 0 where
  pub file : List ℕ
  pub ignore_case : Bool
  pub states : ℕ
  pub rules : ℕ

-- the rule that decides about a path alone; the only file has the index 0
abbrev pub rules_rule : RulesValue → List ℕ → Bool → Option DecidingRule
rules_rule rules = deciding_rule rules.ignore_case rules.file 0

-- A scratch is seen as two numbers: of the states that an automaton may have, and of the rules that there may be.
pub record ScratchValue : Type 0 where
  pub states : ℕ
  pub rules : ℕ

-- The scratch fits the rules: neither of its numbers is lower.
pub record FitsRules (scratch : ScratchValue) (rules : RulesValue) : Type 0 where
  pub for_states : rules.states ≤ scratch.states
  pub for_rules : rules.rules ≤ scratch.rules

-- the new scratch fits all rules that the old scratch fits
abbrev pub FitsAsBefore : ScratchValue → ScratchValue → Type 0
FitsAsBefore old new = (rules : RulesValue) → FitsRules old rules → FitsRules new rules
