-- Definitions that the examples are written with.
use Rattle.std.specs.Prelude.{ℕ, Bool, ◌&&◌, not, List, is_ok, codes, encode_utf8_all, Result}
use Rattle.std.specs.List.{list_all}
use Rattle.std.specs.Str.{chars}
use Prim.Native.String.{String}
use Rattle.glob_syntax.specs.declared.options.Options.{Options}
use Rattle.glob_syntax.specs.declared.parse_error_kind.ParseErrorKind.{ParseErrorKind}
use Rattle.glob_syntax.specs.Reading.{reading}
use Rattle.glob_syntax.specs.inner.LexemeViews.{map_ok}
use Rattle.glob_text.specs.GlobMatches.{GlobValue, glob_matches}
use Rattle.glob_text.specs.RegexText.{regex_text}

-- ---- matching

-- the bytes of a text in UTF-8
abbrev pub utf8 : String → List ℕ
utf8 text = encode_utf8_all (codes text)

-- the glob with these options and this text
abbrev pub glob_of : Options → String → GlobValue
glob_of o glob = record { text = utf8 glob; options = o }

-- the text has a reading
abbrev pub is_glob : Options → String → Bool
is_glob o glob = is_ok (reading o (chars (utf8 glob)))

-- the text is a glob, and the glob matches this path, given as bytes
abbrev pub matches_bytes : Options → String → List ℕ → Bool
matches_bytes o glob path = is_glob o glob && glob_matches (glob_of o glob) path

-- the text is a glob, and the glob does not match this path, given as bytes
abbrev pub matches_no_bytes : Options → String → List ℕ → Bool
matches_no_bytes o glob path = is_glob o glob && not (glob_matches (glob_of o glob) path)

-- the text is a glob, and the glob matches each of these paths
abbrev pub matches_each : Options → String → List String → Bool
matches_each o glob paths = list_all (λ path. matches_bytes o glob (utf8 path)) paths

-- the text is a glob, and the glob matches none of these paths
abbrev pub matches_none : Options → String → List String → Bool
matches_none o glob paths = list_all (λ path. matches_no_bytes o glob (utf8 path)) paths

-- ---- texts of regular expressions

-- the text of the glob as a regular expression, or the first fault of its own text
abbrev pub regex_of : Options → String → Result (List ℕ) ParseErrorKind
regex_of o glob = map_ok (regex_text o) (reading o (codes glob))
