-- The stored form of a list of globs, for finding the globs that match a path.
use Rattle.std.specs.Prelude.{◌≡◌, ◌↔◌, ◌⊎◌, ℕ, ◌≤◌, All, List, [], ◌∷◌, ◌++◌, Contains, Option, cond, length, sum_by, IsTrue}
use Rattle.std.specs.Global.{Box}
use Rattle.set_matcher.specs.inner.TokenGlobs.{TokenGlob, is_reported, is_reported_at, load, token_globs, SomeReportedBelow, load_below}
use Rattle.bit_sets.specs.Texts.{AllBytes}
use Rattle.glob_text.specs.GlobMatches.{GlobValue, IsRead}
use Rattle.set_matcher.specs.Work as work
use Rattle.set_matcher.specs.inner.KeysBelow.{MatchesBelow}
use Rattle.set_matcher.specs.inner.LiteralIndex.{KeyParts, keys_found}
use Rattle.set_matcher.specs.inner.Automata.{AutomataParts, TokenLists, AreForLists, AreFound, AreFoundBelow, automata_or_none, folder_reads, reads_for}

-- the keys of globs, and automata for the globs without a key
pub record SetMatcherParts : Type 0 where
  pub keys : KeyParts
  pub automata : AutomataParts

-- these two as a value
abbrev pub set_matcher_parts : KeyParts → AutomataParts → SetMatcherParts
set_matcher_parts keys automata = record { keys = keys; automata = automata }

-- how many globs are reported for a path
abbrev pub listed_count : List TokenGlob → List ℕ → ℕ
listed_count globs path = sum_by (λ g. cond (is_reported g path) 1 0) globs

-- For each path the found indexes are those of the globs of the list that are not excluded and match the path. Keys find each
-- index at most once. The reads are for globs that need an automaton. The same holds for the paths below a folder.
pub record IsSetMatcherOf (globs : List TokenGlob) (g : SetMatcherParts) : Type 0 where
  pub tokens : TokenLists
  pub are_for : AreForLists g.automata tokens
  pub same : (path : List ℕ) (k : ℕ) → (Contains (keys_found g.keys path) k ⊎ AreFound g.automata.extensions.slots tokens path k) ↔ IsTrue (is_reported_at globs path k)
  pub once : (path : List ℕ) → length (keys_found g.keys path) ≤ listed_count globs path
  pub reads : (path : List ℕ) → reads_for g.automata path ≤ load globs path
  pub below : (folder : List ℕ) → AllBytes folder → (MatchesBelow g.keys folder ⊎ AreFoundBelow g.automata.extensions tokens folder) ↔ SomeReportedBelow globs folder
  pub few_below : folder_reads g.automata ≤ load_below globs

-- The parts are a matcher of another glob after the others, which has this index.
abbrev pub AddsGlob : TokenGlob → ℕ → SetMatcherParts → SetMatcherParts → Type 0
AddsGlob glob index old new = (globs : List TokenGlob) → index ≡ length globs → IsSetMatcherOf globs old → IsSetMatcherOf (globs ++ glob ∷ []) new

-- The invariants of such a value's parts: they are a matcher of this number of globs, and each glob was read. No more states are
-- run than the costs of the globs allow. Automata have an index for each glob.
pub record IsMatcherOf (given : List GlobValue) (len : ℕ) (keys : KeyParts) (automata : AutomataParts) : Type 0 where
  pub read : All IsRead given
  pub matcher : IsSetMatcherOf (token_globs given) (set_matcher_parts keys automata)
  pub size : (path : List ℕ) → load (token_globs given) path ≤ work.load given path
  pub size_below : load_below (token_globs given) ≤ work.load_below given
  pub counted : len ≡ length given
  pub indexed : len ≤ automata.extensions.index_count

-- The same of a matcher or its builder for n globs, which has automata only if some glob needs any. Their indexes are below n.
pub record KeepsMatcherOf (given : List GlobValue) (len n : ℕ) (keys : KeyParts) (automata : Option (Box AutomataParts)) : Type 0 where
  pub of_globs : IsMatcherOf given len keys (automata_or_none n automata)
  pub count : (automata_or_none n automata).extensions.index_count ≡ n
