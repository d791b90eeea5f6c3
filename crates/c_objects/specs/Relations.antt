-- Questions about globs and rules of ignore files, and what their answers tell.
use Rattle.std.specs.Prelude.{◌≡◌, ◌==◌, ℕ, ◌<◌, Bool, Option, Some, List, [], ◌∷◌, length, map, slice_get, IsSomeAnd, if◌then◌else◌}
use Rattle.git_ignore.specs.Rules.{lines_of_rules, patterns_of, rules_of}
use Rattle.git_ignore.specs.StackValue.{file_at}
use Rattle.glob_text.specs.GlobMatches.{GlobValue, glob_matches}
use Rattle.glob_relations.specs.Answers.{TellsCovering, TellsOverlap}
use Rattle.glob_relations.specs.Rules.{TellsRule}
use Rattle.glob_relations.specs.Unused.{rivals, TellsReachability}
use Rattle.glob_relations.specs.declared.domain.Domain.{Domain}
use Rattle.glob_relations.specs.declared.domain.Domain.TheVariants.{AllPaths, RelativePaths}
use Rattle.glob_relations.specs.declared.relations.Coverage.{Coverage}
use Rattle.glob_relations.specs.declared.relations.Coverage.TheVariants as coverage
use Rattle.glob_relations.specs.declared.relations.Intersection.{Intersection}
use Rattle.glob_relations.specs.declared.relations.Intersection.TheVariants as intersection
use Rattle.glob_relations.specs.declared.rules.RuleReachability.{RuleReachability}
use Rattle.glob_relations.specs.declared.rules.RuleReachability.TheVariants as rule
use Rattle.glob_relations.specs.declared.unused.Decides.{Decides}
use Rattle.glob_relations.specs.declared.unused.Decides.TheVariants.{First, Last}
use Rattle.glob_relations.specs.declared.unused.Reachability.{Reachability}
use Rattle.glob_relations.specs.declared.unused.Reachability.TheVariants as reachability
use Rattle.c_objects.specs.declared.answers.Answer.{Answer}
use Rattle.c_objects.specs.declared.answers.Answer.TheVariants as answer
use Rattle.c_objects.specs.declared.answers.Answers.{Answers}
use Rattle.c_objects.specs.declared.answers.RuleAnswers.{RuleAnswers}
use Rattle.c_objects.specs.declared.answers.Answers.TheVariants as answers
use Rattle.c_objects.specs.declared.object.Object.{Object}
use Rattle.c_objects.specs.declared.object.Object.TheVariants.{Answers as Answered}
use Rattle.c_objects.specs.Kinds.{IfGlob, IfIgnore}
use Rattle.ignore_pattern.specs.Patterns.{Pattern}

-- the number stands for a domain
abbrev pub IsDomain : ℕ → Type 0
IsDomain n = n < 2

-- the domain that the number stands for
abbrev pub domain_of : ℕ → Domain
domain_of n = if n == 0 then AllPaths else RelativePaths

-- the number says whether the first or the last match decides
abbrev pub IsDecides : ℕ → Type 0
IsDecides n = n < 2

-- which of the globs that match a path decides
abbrev pub decides_of : ℕ → Decides
decides_of n = if n == 0 then First else Last

-- the answer is a coverage, and P of it
abbrev pub IfCoverage : Option Object → (Coverage → Type 0) → Type 0
IfCoverage (Some (Answered (answers.Coverage c))) P = P c
IfCoverage _ P = ⊥

-- the answer is an intersection, and P of it
abbrev pub IfIntersection : Option Object → (Intersection → Type 0) → Type 0
IfIntersection (Some (Answered (answers.Intersection c))) P = P c
IfIntersection _ P = ⊥

-- the answers are those about the globs of a list, and P of them
abbrev pub IfReachabilities : Option Object → (List Reachability → Type 0) → Type 0
IfReachabilities (Some (Answered (answers.Reachabilities all))) P = P all.items
IfReachabilities _ P = ⊥

-- the answers are those about the rules of an ignore file, and P of them
abbrev pub IfRules : Option Object → (RuleAnswers → Type 0) → Type 0
IfRules (Some (Answered (answers.Rules all))) P = P all
IfRules _ P = ⊥

-- The object is a glob, and the answer tells whether the others cover it.
unfoldable pub AnswersCovering : Object → List GlobValue → Domain → ℕ → Option Object → Type 0
AnswersCovering o by domain limit answer = IfGlob (Some o) (λ g. IfCoverage answer (TellsCovering glob_matches g by domain limit))

-- The objects are globs, and the answer tells whether they match some path in common.
unfoldable pub AnswersOverlap : Object → Object → Domain → ℕ → Option Object → Type 0
AnswersOverlap o p domain limit answer = IfGlob (Some o) (λ g. IfGlob (Some p) (λ h. IfIntersection answer (TellsOverlap g h domain limit)))

-- Each answer tells whether the glob of its index ever decides.
unfoldable pub AnswersUnreachable : List GlobValue → Decides → Domain → ℕ → Option Object → Type 0
AnswersUnreachable globs decides domain limit answer = IfReachabilities answer (λ told. (i : ℕ) (g : GlobValue) (r : Reachability)
    → slice_get globs i ≡ Some g → slice_get told i ≡ Some r → TellsReachability glob_matches globs g (rivals decides i (length globs)) domain limit r)

-- There is an answer for each rule of an ignore file, given by its bytes. It tells whether the rule ever decides. The lines are those
-- of the rules.
pub record TellRules (ignore_case : Bool) (file : List ℕ) (domain : Domain) (limit : ℕ) (all : RuleAnswers) : Type 0 where
  pub len : length all.told.items ≡ length (rules_of file)
  pub each : (i : ℕ) (p : Pattern) (r : RuleReachability) → slice_get (patterns_of (rules_of file)) i ≡ Some p → slice_get all.told.items i ≡ Some r → TellsRule ignore_case (patterns_of (rules_of file)) i p domain limit r
  pub lines : all.lines.items ≡ lines_of_rules (rules_of file)

-- The object is a walk with a file of this index, and the answers tell which rules of the file ever decide.
abbrev pub AnswersRules : Option Object → ℕ → Domain → ℕ → Option Object → Type 0
AnswersRules o index domain limit answer = IfIgnore o (λ s. IsSomeAnd (file_at s index) (λ file. IfRules answer (TellRules s.ignore_case file domain limit)))

-- What an answer tells: a path; or that there is no such path, and the indexes of the globs or rules that the answer names; or that
-- such paths lie below ignored folders, and the index of a rule; or that the search has more rows than its limit.
pub data Told : Type 0 where
  a_path : List ℕ → Told
  no_path : List ℕ → Told
  below_ignored : List ℕ → Told
  limit_reached : Told

-- what it tells whether others cover a glob: a path that they miss, or that there is none
abbrev pub told_coverage : Coverage → Told
told_coverage coverage.Covered = no_path []
told_coverage (coverage.Not path) = a_path path.items
told_coverage coverage.Unknown = limit_reached

-- what it tells whether two globs match a path in common: such a path, or that there is none
abbrev pub told_intersection : Intersection → Told
told_intersection intersection.Disjoint = no_path []
told_intersection (intersection.Both path) = a_path path.items
told_intersection intersection.Unknown = limit_reached

-- what it tells whether a glob of a list ever decides: a path for which it does, or the indexes of globs that cover it
abbrev pub told_reachability : Reachability → Told
told_reachability (reachability.Decides path) = a_path path.items
told_reachability (reachability.Never indexes) = no_path indexes.items
told_reachability reachability.Unknown = limit_reached

-- the same of a rule, which may also be hidden by ignored folders: then the index of the rule that ignores one
abbrev pub told_rule_reachability : RuleReachability → Told
told_rule_reachability (rule.Decides path) = a_path path.items
told_rule_reachability (rule.Never indexes) = no_path indexes.items
told_rule_reachability (rule.Hidden index) = below_ignored (index ∷ [])
told_rule_reachability rule.Unknown = limit_reached

-- what each of the answers tells
abbrev pub told : Answers → List Told
told (answers.Coverage c) = told_coverage c ∷ []
told (answers.Intersection c) = told_intersection c ∷ []
told (answers.Reachabilities all) = map told_reachability all.items
told (answers.Rules all) = map told_rule_reachability all.told.items

-- the number of the line of each rule, of answers about the rules of an ignore file
abbrev pub lines_told : Answers → List ℕ
lines_told (answers.Rules all) = all.lines.items
lines_told _ = []

-- what an answer tells that is read
abbrev pub told_by : Answer → Told
told_by (answer.Path path) = a_path path.now
told_by (answer.NoPath indexes) = no_path indexes.now
told_by (answer.BelowIgnored indexes) = below_ignored indexes.now
told_by answer.Unknown = limit_reached
