-- The words in which the examples are written.
use Rattle.std.specs.Prelude.{ℕ, Bool, true, List, [], ◌∷◌, length, is_ok, codes, encode_utf8_all, if◌then◌else◌, Option, None, Some, ◌==◌}
use Rattle.std.specs.Char.{encode_utf8}
use Rattle.std.specs.List.{list_all}
use Rattle.std.specs.Str.{chars}
use Prim.Native.String.{String}
use Rattle.globset_glob.specs.Ranges.{ranges, bad_range}
use Rattle.globset_glob.specs.Lexemes.{lexemes, lexeme_at}
use Rattle.globset_glob.specs.Nesting.{nested}
use Rattle.globset_glob.specs.Stars.{piece}
use Rattle.globset_glob.specs.Reading.{reading, whole, levels}
use Rattle.globset_glob.specs.GlobMatches.{GlobValue, default_options, default_glob, tokens_of_glob, glob_matches}
use Rattle.set_matcher.specs.Answer.{matching_indexes}
use Rattle.glob_strategy.specs.Direct.{is_direct, needs_automaton}
use Rattle.set_matcher.specs.Excluded.{excluded}

-- What a proof unfolds to compute `excluded` and `matching_indexes` of globs that are written out.
unfoldable pub globs_on_literals : Unit {0}
unfolding chars encode_utf8 ranges bad_range lexemes lexeme_at nested piece reading whole levels tokens_of_glob glob_matches excluded matching_indexes is_direct needs_automaton
globs_on_literals = tt

-- ---- globs

-- the bytes of a text
abbrev pub utf8 : String → List ℕ
utf8 text = encode_utf8_all (codes text)

-- the glob of a text under the default options
abbrev pub glob : String → GlobValue
glob text = default_glob (utf8 text)

-- under `case_insensitive`
abbrev pub insensitive : String → GlobValue
insensitive text = record { text = utf8 text; options = record default_options { case_insensitive = true } }

-- under `literal_separator`
abbrev pub separated : String → GlobValue
separated text = record { text = utf8 text; options = record default_options { literal_separator = true } }

-- the globs of these texts under the default options
abbrev pub globs : List String → List GlobValue
globs [] = []
globs (text ∷ texts) = glob text ∷ globs texts

-- ---- results

-- the text has a reading, as that of every `Glob` has
abbrev pub is_read : GlobValue → Bool
is_read g = is_ok (reading g.options (chars g.text))

-- the indexes that the set of these globs returns for the path, or `None` if one of the texts is not a glob
abbrev pub indexes : List GlobValue → String → Option (List ℕ)
indexes gs path = if list_all is_read gs then Some (matching_indexes gs (utf8 path)) else None

-- whether the set's indexes for the path are all indexes below the number of globs, or `None` if a text is not a glob
abbrev pub all_reported : List GlobValue → String → Option Bool
all_reported gs path = if list_all is_read gs then Some (length (matching_indexes gs (utf8 path)) == length gs) else None
