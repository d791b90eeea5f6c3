-- The rules of an ignore file, and which of them decides about a path below the file's folder. Git compares without regard
-- to case where its setting `core.ignoreCase` is set: `ignore_case` is that setting.
use Rattle.std.specs.Prelude.{ℕ, zero, suc, Bool, not, ◌==◌, ◌&&◌, ◌||◌, List, [], ◌∷◌, Option, Some, None, is_none, if◌then◌else◌, map, slice_get}
use Rattle.std.specs.List.{list_all}
use Rattle.std.specs.Option.{option_map}
use Rattle.ignore_pattern.specs.Ends.{begins_with, without_first}
use Rattle.ignore_pattern.specs.Lines.{file_lines, line_text}
use Rattle.ignore_pattern.specs.Patterns.{Pattern, pattern_of_line, applies}
use Rattle.git_ignore.specs.declared.decision.Decision.{Decision}
use Rattle.git_ignore.specs.declared.decision.Decision.TheVariants.{Ignored, Kept, Undecided}
use Rattle.git_ignore.specs.declared.decision.DecidingRule.{DecidingRule}

-- a line with a pattern: the number of the line, counted from 1, and the pattern
pub record Rule : Type 0 where
  pub line : ℕ
  pub pattern : Pattern

-- the rules of these lines, from this number on
abbrev pub rules_from : ℕ → List (List ℕ) → List Rule
rules_from n [] = []
rules_from n (line ∷ lines) = elim (pattern_of_line line) [ None ↦ rules_from (suc n) lines | Some p ↦ record { line = n; pattern = p } ∷ rules_from (suc n) lines ]

-- the rules of an ignore file, given by its bytes
unfoldable pub rules_of : List ℕ → List Rule
rules_of file = rules_from 1 (file_lines file)

-- the patterns of rules
abbrev pub patterns_of : List Rule → List Pattern
patterns_of rules = map (λ (rule : Rule). rule.pattern) rules

-- the numbers of their lines
abbrev pub lines_of_rules : List Rule → List ℕ
lines_of_rules rules = map (λ (rule : Rule). rule.line) rules

-- The text of a line has no pattern to read: it is a comment, or has nothing but slashes after its `!`, if one is there.
abbrev pub lacks_pattern : List ℕ → Bool
lacks_pattern text = begins_with 35 text || list_all (λ c. c == 47) (without_first 33 text)

-- git cannot read the line: it has no pattern, although its text has one to read
abbrev pub is_unread : List ℕ → Bool
is_unread line = is_none (pattern_of_line line) && not (lacks_pattern (line_text line))

-- the numbers of the lines that git cannot read, of these lines from this number on
abbrev pub unread_from : ℕ → List (List ℕ) → List ℕ
unread_from n [] = []
unread_from n (line ∷ lines) = if is_unread line then n ∷ unread_from (suc n) lines else unread_from (suc n) lines

-- the numbers of the lines that git cannot read, of an ignore file, given by its bytes
unfoldable pub unread_lines_of : List ℕ → List ℕ
unread_lines_of file = unread_from 1 (file_lines file)

-- the line with this number, counted from 1, if there is one
abbrev pub line_at : List (List ℕ) → ℕ → Option (List ℕ)
line_at lines zero = None
line_at lines (suc k) = slice_get lines k

-- the text of the line with this number, of an ignore file, given by its bytes
unfoldable pub line_text_at : List ℕ → ℕ → Option (List ℕ)
line_text_at file number = option_map line_text (line_at (file_lines file) number)

-- the last rule that applies
abbrev pub last_rule : Bool → List ℕ → Bool → List Rule → Option Rule
last_rule ignore_case path is_folder [] = None
last_rule ignore_case path is_folder (rule ∷ rules) = elim (last_rule ignore_case path is_folder rules)
    [ Some last ↦ Some last | None ↦ if applies ignore_case rule.pattern path is_folder then Some rule else None ]

-- The rule that decides, as calls return it: the index of its file, the number of its line, and whether it is negated.
abbrev pub told : ℕ → Option Rule → Option DecidingRule
told file None = None
told file (Some rule) = Some (record { file = file; line = rule.line; is_negated = rule.pattern.negated })

-- The rule of an ignore file that decides about a path: the last that applies. The file has this index among several.
unfoldable pub deciding_rule : Bool → List ℕ → ℕ → List ℕ → Bool → Option DecidingRule
deciding_rule ignore_case file index path is_folder = told index (last_rule ignore_case path is_folder (rules_of file))

-- the decision of a rule that decides
abbrev pub decision_of : Option DecidingRule → Decision
decision_of None = Undecided
decision_of (Some rule) = if rule.is_negated then Kept else Ignored
