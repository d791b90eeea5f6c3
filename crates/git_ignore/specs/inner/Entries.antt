-- The stored form of a file's rules: an automaton of their patterns, and an entry for each rule. No contract of the crate's public
-- calls cites this.
use Rattle.std.specs.Prelude.{◌≡◌, ℕ, zero, suc, Bool, not, ◌||◌, List, [], ◌∷◌, Option, Some, None, if◌then◌else◌, map, slice_get, ◌++◌, ◌+◌, ◌≤◌}
use Rattle.byte_nfa.specs.Runs.{size}
use Rattle.byte_nfa.specs.Steps.{NfaValue}
use Rattle.engine.specs.Memory.{Fits, MemoryValue}
use Rattle.ignore_pattern.specs.Automata.{IsAutomatonOf}
use Rattle.ignore_pattern.specs.Patterns.{Pattern}
use Rattle.git_ignore.specs.Rules.{Rule, patterns_of}
use Rattle.git_ignore.specs.RulesValue.{RulesValue}
use Rattle.git_ignore.specs.declared.decision.DecidingRule.{DecidingRule}
use Rattle.git_ignore.specs.declared.entry.RuleEntry.{RuleEntry}

-- ---- entries

-- the rule of the entry is for paths of this kind
abbrev pub is_for : Bool → RuleEntry → Bool
is_for is_folder e = is_folder || not e.is_folders_only

-- the entry of a rule
abbrev pub entry_of : Rule → RuleEntry
entry_of rule = record { line = rule.line; is_negated = rule.pattern.negated; is_folders_only = rule.pattern.folders_only }

-- the entry of a rule, if there is any
abbrev pub entry_of_rule : Option Rule → Option RuleEntry
entry_of_rule None = None
entry_of_rule (Some rule) = Some (entry_of rule)

-- the rule that decides, by the index of its file and its entry
abbrev pub told_of : ℕ → Option RuleEntry → Option DecidingRule
told_of file None = None
told_of file (Some e) = Some (record { file = file; line = e.line; is_negated = e.is_negated })

-- the entry at an index that is found, if it is for paths of this kind, and otherwise the entry before
abbrev pub chosen : Bool → Option RuleEntry → Option RuleEntry → Option RuleEntry
chosen is_folder before None = before
chosen is_folder before (Some e) = if is_for is_folder e then Some e else before

-- of the entries below an index, the last that is found and is for paths of this kind
abbrev pub last_found : (ℕ → Bool) → Bool → List RuleEntry → ℕ → Option RuleEntry
last_found is_found is_folder entries zero = None
last_found is_found is_folder entries (suc k) =
    let before = last_found is_found is_folder entries k in
    if is_found k then chosen is_folder before (slice_get entries k) else before

-- ---- rules as they are read

-- the rule of a line, if it has a pattern
abbrev pub rule_at : ℕ → Option Pattern → List Rule
rule_at number None = []
rule_at number (Some p) = record { line = number; pattern = p } ∷ []

-- the number of a line, if git cannot read it
abbrev pub unread_at : ℕ → Bool → List ℕ
unread_at number is_unread = if is_unread then number ∷ [] else []

-- the entry of each rule
abbrev pub entries_of : List Rule → List RuleEntry
entries_of rules = map entry_of rules

-- the patterns and the entries of rules
pub record ArePartsOf (rules : List Rule) (patterns : List Pattern) (entries : List RuleEntry) : Type 0 where
  pub same_patterns : patterns ≡ patterns_of rules
  pub same_entries : entries ≡ entries_of rules

-- These are the parts of more rules than before.
abbrev pub AddsRules : List Rule → List Pattern → List RuleEntry → List Pattern → List RuleEntry → Type 0
AddsRules more patterns entries patterns' entries' = (rules : List Rule) → ArePartsOf rules patterns entries → ArePartsOf (rules ++ more) patterns' entries'

-- The first rules of a file were read, and these are still to be read.
pub record AreReadUpTo (all rest : List Rule) (patterns : List Pattern) (entries : List RuleEntry) : Type 0 where
  pub done : List Rule
  pub split : all ≡ done ++ rest
  pub stored : ArePartsOf done patterns entries

-- ---- rules as they are stored

-- Stored rules are seen as the bytes of their file, whether case is ignored, the automaton of their patterns, and the number of the
-- rules.
pub record StoredValue : Type 0 where
  pub file : List ℕ
  pub ignore_case : Bool
  pub automaton : NfaValue
  pub rules : ℕ

-- the rules as public calls see them: the number of states stands for the automaton
abbrev pub rules_value : StoredValue → RulesValue
rules_value s = record { file = s.file; ignore_case = s.ignore_case; states = size s.automaton; rules = s.rules }

-- the automaton finds the patterns of the rules, and these are the entries of the rules
pub record AreStored (ignore_case : Bool) (rules : List Rule) (automaton : NfaValue) (entries : List RuleEntry) : Type 0 where
  pub finds_patterns : IsAutomatonOf ignore_case (patterns_of rules) automaton
  pub same_entries : entries ≡ entries_of rules

-- the memory of a searcher: it fits the automaton of the rules, with room for its states, and so many indexes are enough
pub record IsSearcherOf (stored : StoredValue) (memory : MemoryValue) (indexes : ℕ) : Type 0 where
  pub fits : Fits memory 0 stored.automaton
  pub states : (rules_value stored).states ≤ memory.room
  pub enough : stored.rules + 2 ≤ indexes
