-- Facts of an object of a given kind.
use Rattle.std.specs.Prelude.{Option, Some, ⊤}
use Rattle.git_ignore.specs.StackValue.{StackValue}
use Rattle.globset_glob.specs.GlobMatches.{GlobValue}
use Rattle.globset.specs.SearcherValue.{SearcherValue}
use Rattle.globset.specs.SetValue.{SetValue, BuilderValue}
use Rattle.c_objects.specs.declared.answers.Answers.{Answers as AnswersValue}
use Rattle.c_objects.specs.declared.object.Object.{Object}
use Rattle.c_objects.specs.declared.object.Object.TheVariants.{Glob, Matcher, MatcherSearcher, Builder, Set, Searcher, Answers, Ignore}

-- it is a glob, and P of it
abbrev pub IfGlob : Option Object → (GlobValue → Type 0) → Type 0
IfGlob (Some (Glob g)) P = P g
IfGlob _ P = ⊥

-- it is a matcher, and P of its glob
abbrev pub IfMatcher : Option Object → (GlobValue → Type 0) → Type 0
IfMatcher (Some (Matcher m)) P = P m
IfMatcher _ P = ⊥

-- it is a searcher of a matcher, and P of its glob
abbrev pub IfMatcherSearcher : Option Object → (GlobValue → Type 0) → Type 0
IfMatcherSearcher (Some (MatcherSearcher m)) P = P m
IfMatcherSearcher _ P = ⊥

-- it is a builder, and P of it
abbrev pub IfBuilder : Option Object → (BuilderValue → Type 0) → Type 0
IfBuilder (Some (Builder b)) P = P b
IfBuilder _ P = ⊥

-- it is a set, and P of it
abbrev pub IfSet : Option Object → (SetValue → Type 0) → Type 0
IfSet (Some (Set s)) P = P s
IfSet _ P = ⊥

-- it is a searcher, and P of it
abbrev pub IfSearcher : Option Object → (SearcherValue → Type 0) → Type 0
IfSearcher (Some (Searcher s)) P = P s
IfSearcher _ P = ⊥

-- it is answers about globs or rules, and P of them
abbrev pub IfAnswers : Option Object → (AnswersValue → Type 0) → Type 0
IfAnswers (Some (Answers a)) P = P a
IfAnswers _ P = ⊥

-- it is a walk with its ignore files, and P of it
abbrev pub IfIgnore : Option Object → (StackValue → Type 0) → Type 0
IfIgnore (Some (Ignore s)) P = P s
IfIgnore _ P = ⊥

-- both are walks, and P of them
abbrev pub IfIgnores : Option Object → Option Object → (StackValue → StackValue → Type 0) → Type 0
IfIgnores old new P = IfIgnore old (λ s. IfIgnore new (λ t. P s t))

-- both are searchers, and P of them
abbrev pub IfSearchers : Option Object → Option Object → (SearcherValue → SearcherValue → Type 0) → Type 0
IfSearchers old new P = IfSearcher old (λ s. IfSearcher new (λ t. P s t))

-- it is a glob
abbrev pub IsGlob : Option Object → Type 0
IsGlob o = IfGlob o (λ _. ⊤)

-- it is a matcher
abbrev pub IsMatcher : Option Object → Type 0
IsMatcher o = IfMatcher o (λ _. ⊤)

-- it is a searcher of a matcher
abbrev pub IsMatcherSearcher : Option Object → Type 0
IsMatcherSearcher o = IfMatcherSearcher o (λ _. ⊤)

-- it is a builder
abbrev pub IsBuilder : Option Object → Type 0
IsBuilder o = IfBuilder o (λ _. ⊤)

-- it is a set
abbrev pub IsSet : Option Object → Type 0
IsSet o = IfSet o (λ _. ⊤)

-- it is a searcher
abbrev pub IsSearcher : Option Object → Type 0
IsSearcher o = IfSearcher o (λ _. ⊤)

-- it is answers about globs or rules
abbrev pub IsAnswers : Option Object → Type 0
IsAnswers o = IfAnswers o (λ _. ⊤)

-- it is a walk with its ignore files
abbrev pub IsIgnore : Option Object → Type 0
IsIgnore o = IfIgnore o (λ _. ⊤)
