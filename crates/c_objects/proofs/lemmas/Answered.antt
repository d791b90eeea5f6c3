-- Answers about copies of globs are about the globs.
use Rattle.std.proofs.Common.{◌≡◌, ℕ, List, Vec, length, subst}
use Rattle.std.specs.Global.{Global}
use Rattle.std.specs.Prelude.{Some, slice_get}
use Rattle.glob_text.specs.GlobMatches.{GlobValue, glob_matches}
use Rattle.glob_relations.specs.Answers.{TellsCovering, TellsOverlap}
use Rattle.glob_relations.specs.Unused.{rivals, TellsReachability}
use Rattle.glob_relations.specs.declared.domain.Domain.{Domain}
use Rattle.glob_relations.specs.declared.relations.Coverage.{Coverage}
use Rattle.glob_relations.specs.declared.relations.Intersection.{Intersection}
use Rattle.glob_relations.specs.declared.unused.Decides.{Decides}
use Rattle.glob_relations.specs.declared.unused.Reachability.{Reachability}
use Rattle.c_objects.specs.declared.answers.Answers.TheVariants as answers
use Rattle.c_objects.specs.declared.object.Object.{Object}
use Rattle.c_objects.specs.declared.object.Object.TheVariants.{Glob, Matcher, MatcherSearcher, Builder, Set, Searcher, Answers, Ignore}
use Rattle.c_objects.specs.Kinds.{IfGlob}
use Rattle.c_objects.specs.Relations.{AnswersCovering, AnswersOverlap, AnswersUnreachable}

pub answers_covering : (o : Object) (g : GlobValue) (by globs : List GlobValue) (domain : Domain) (limit : ℕ) (c : Coverage)
    → IfGlob (Some o) (λ h. g ≡ h) → by ≡ globs → TellsCovering glob_matches g by domain limit c → AnswersCovering o globs domain limit (Some (Answers (answers.Coverage c)))
unfolding AnswersCovering
answers_covering (Glob h) g by globs domain limit c e same t =
    subst (λ (x : GlobValue). TellsCovering glob_matches x globs domain limit c) e (subst (λ (xs : List GlobValue). TellsCovering glob_matches g xs domain limit c) same t)
answers_covering (Matcher h) g by globs domain limit c e same t = absurd e
answers_covering (Builder h) g by globs domain limit c e same t = absurd e
answers_covering (Set h) g by globs domain limit c e same t = absurd e
answers_covering (MatcherSearcher h) g by globs domain limit c e same t = absurd e
answers_covering (Searcher h) g by globs domain limit c e same t = absurd e
answers_covering (Answers h) g by globs domain limit c e same t = absurd e
answers_covering (Ignore h) g by globs domain limit c e same t = absurd e

second : (g h : GlobValue) (p : Object) (domain : Domain) (limit : ℕ) (c : Intersection) → IfGlob (Some p) (λ k. h ≡ k) → TellsOverlap g h domain limit c → IfGlob (Some p) (λ k. TellsOverlap g k domain limit c)
second g h (Glob k) domain limit c e t = subst (λ (x : GlobValue). TellsOverlap g x domain limit c) e t
second g h (Matcher k) domain limit c e t = absurd e
second g h (Builder k) domain limit c e t = absurd e
second g h (Set k) domain limit c e t = absurd e
second g h (MatcherSearcher k) domain limit c e t = absurd e
second g h (Searcher k) domain limit c e t = absurd e
second g h (Answers k) domain limit c e t = absurd e
second g h (Ignore k) domain limit c e t = absurd e

pub answers_overlap : (o p : Object) (g h : GlobValue) (domain : Domain) (limit : ℕ) (c : Intersection)
    → IfGlob (Some o) (λ k. g ≡ k) → IfGlob (Some p) (λ k. h ≡ k) → TellsOverlap g h domain limit c → AnswersOverlap o p domain limit (Some (Answers (answers.Intersection c)))
unfolding AnswersOverlap
answers_overlap (Glob k) p g h domain limit c e f t = second k h p domain limit c f (subst (λ (x : GlobValue). TellsOverlap x h domain limit c) e t)
answers_overlap (Matcher k) p g h domain limit c e f t = absurd e
answers_overlap (Builder k) p g h domain limit c e f t = absurd e
answers_overlap (Set k) p g h domain limit c e f t = absurd e
answers_overlap (MatcherSearcher k) p g h domain limit c e f t = absurd e
answers_overlap (Searcher k) p g h domain limit c e f t = absurd e
answers_overlap (Answers k) p g h domain limit c e f t = absurd e
answers_overlap (Ignore k) p g h domain limit c e f t = absurd e

pub answers_unreachable : (copies globs : List GlobValue) (decides : Decides) (domain : Domain) (limit : ℕ) (all : Vec Reachability Global) → copies ≡ globs
    → ((i : ℕ) (g : GlobValue) (r : Reachability) → slice_get copies i ≡ Some g → slice_get all.items i ≡ Some r → TellsReachability glob_matches copies g (rivals decides i (length copies)) domain limit r)
    → AnswersUnreachable globs decides domain limit (Some (Answers (answers.Reachabilities all)))
unfolding AnswersUnreachable
answers_unreachable copies globs decides domain limit all same told =
    subst (λ (xs : List GlobValue). (i : ℕ) (g : GlobValue) (r : Reachability) → slice_get xs i ≡ Some g → slice_get all.items i ≡ Some r → TellsReachability glob_matches xs g (rivals decides i (length xs)) domain limit r) same told
