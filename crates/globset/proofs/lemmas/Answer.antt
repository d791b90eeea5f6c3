-- The answers of a set of no globs.
use Rattle.std.proofs.Common.{◌≡◌, ℕ, List, [], Option, None, refl, sym, ap, ◌∙◌}
use Rattle.std.specs.Prelude.{◌≢◌, ◌↔◌, IsTrue, false}
use Rattle.std.specs.declared.sync.Arc.{Arc}
use Rattle.glob_path.specs.Below.{path_below}
use Rattle.globset_glob.specs.GlobMatches.{GlobValue}
use Rattle.set_matcher.specs.Answer.{matching_indexes}
use Rattle.set_matcher.specs.Below.{MatchesBelow}
use Rattle.set_matcher.specs.SetValue.{SetValue, set_globs}
use Rattle.set_matcher.specs.SetMatcherValue.{SetMatcherValue}
use Rattle.globset.specs.inner.SetOfMatcher.{set_of}

pub answer_of_none : (globs : List GlobValue) (path : List ℕ) → globs ≡ [] → [] ≡ matching_indexes globs path
unfolding matching_indexes
answer_of_none globs path e = rw e refl

pub none_of_none : (globs : List GlobValue) (path : List ℕ) → globs ≡ [] → IsTrue false ↔ (matching_indexes globs path ≢ [])
none_of_none globs path e = (λ y. absurd (cc), λ n. absurd (n (sym (answer_of_none globs path e))))

pub none_below : (globs : List GlobValue) (folder : List ℕ) → globs ≡ [] → IsTrue false ↔ MatchesBelow globs folder
none_below globs folder e = (λ y. absurd (cc), λ (rest, bytes, some). absurd (some (sym (answer_of_none globs (path_below folder rest) e))))

-- a set without a matcher has none
pub no_globs : {Z : Type 0} {matcher : Option (Arc SetMatcherValue Z)} {set : SetValue} → matcher ≡ None → set_of matcher ≡ set → set_globs set ≡ []
no_globs is same = ap set_globs (sym same ∙ ap set_of is)
