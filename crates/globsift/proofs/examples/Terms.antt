-- The terms in which examples are written. All texts are ASCII, so their characters are their bytes.
use Rattle.std.specs.Prelude.{ℕ, Bool, true, false, not, List, [], map, codes, Result, Ok, Err}
use Rattle.std.specs.Char.{encode_utf8}
use Rattle.std.specs.Fmt.{digits}
use Rattle.std.specs.Str.{chars}
use Prim.Native.String.{String}
use Rattle.globset.specs.Answer.{matching_indexes}
use Rattle.globset.specs.Lexemes.{lexemes, lexeme_at}
use Rattle.globset.specs.GlobMatches.{GlobValue, tokens_of_glob, glob_matches}
use Rattle.globset.specs.Nesting.{nested}
use Rattle.globset.specs.Ranges.{ranges, bad_range}
use Rattle.globset.specs.Reading.{reading, whole, levels}
use Rattle.globset.specs.Excluded.{excluded}
use Rattle.globset.specs.Stars.{piece}
use Rattle.globsift.specs.Command.{CommandValue, FaultValue, command_of}
use Rattle.globsift.specs.Output.{sifted, has_match, line_output}
use Rattle.globsift.specs.Texts.{command_fault_text}

-- what a proof unfolds to compute with globs that are written out
unfoldable pub globs_on_literals : Unit {0}
unfolding chars encode_utf8 digits ranges bad_range lexemes lexeme_at nested piece reading whole levels tokens_of_glob glob_matches excluded matching_indexes line_output sifted has_match
globs_on_literals = tt

-- ---- globs, by the options that are not the default ones

-- the options are in the order of the flags `-i`, `-s`, `-e`, `-u` and `-b`
abbrev pub glob_with : Bool → Bool → Bool → Bool → Bool → String → GlobValue
glob_with i s e u b text = record {
  text = codes text;
  options = record {
    case_insensitive = i;
    literal_separator = s;
    backslash_escape = not b;
    empty_alternates = e;
    allow_unclosed_class = u;
    whole_character = false;
  };
}

-- under the default options
abbrev pub default : String → GlobValue
default = glob_with false false false false false

abbrev pub insensitive : String → GlobValue
insensitive = glob_with true false false false false

abbrev pub separated : String → GlobValue
separated = glob_with false true false false false

abbrev pub empty_kept : String → GlobValue
empty_kept = glob_with false false true false false

abbrev pub unclosed : String → GlobValue
unclosed = glob_with false false false true false

abbrev pub unescaped : String → GlobValue
unescaped = glob_with false false false false true

-- ---- commands

-- the command of these arguments
abbrev pub command : List String → Result CommandValue FaultValue
command arguments = command_of (map codes arguments)

-- plain output of these globs; numbered output of them
abbrev pub plain : List GlobValue → Result CommandValue FaultValue
plain globs = Ok (record { globs = globs; numbered = false })

abbrev pub numbered : List GlobValue → Result CommandValue FaultValue
numbered globs = Ok (record { globs = globs; numbered = true })

-- the text of the error, which is empty for a command
abbrev pub error_of : Result CommandValue FaultValue → List ℕ
error_of (Ok command) = []
error_of (Err fault) = command_fault_text fault

-- these arguments are rejected with an error of this text
abbrev pub error : List String → List ℕ
error arguments = error_of (command arguments)

-- ---- runs

-- the output, and whether a line was written
abbrev pub run_of : Result CommandValue FaultValue → List ℕ → List ℕ × Bool
run_of (Ok command) input = (sifted command.globs command.numbered input, has_match command.globs input)
run_of (Err fault) input = ([], false)

-- what the program writes with these arguments for this input
abbrev pub run : List String → String → List ℕ × Bool
run arguments input = run_of (command arguments) (codes input)

-- that it wrote this; that it wrote nothing
abbrev pub writes : String → List ℕ × Bool
writes output = (codes output, true)

abbrev pub writes_nothing : List ℕ × Bool
writes_nothing = ([], false)
