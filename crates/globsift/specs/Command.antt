-- The meaning of the command-line arguments. Each argument is a text in UTF-8.
use Rattle.std.specs.Prelude.{◌≡◌, ◌⊎◌, ℕ, List, [], ◌∷◌, ◌++◌, Bool, true, false, ◌==◌, ◌||◌, ◌&&◌, not, Option, Some, None, option_map, Result, Ok, Err, codes, map, string_bytes, if◌then◌else◌}
use Rattle.std.specs.List.{list_all, list_any}
use Rattle.std.specs.Str.{bytes_eq}
use Rattle.serde_json.specs.Read.{read}
use Rattle.globset.specs.GlobMatches.{GlobValue}
use Rattle.globset.specs.Errors.{ErrorValue, glob_or_parse_error, out_of_memory}
use Rattle.globset.specs.SetFromValue.{globs_of_value}
use Rattle.globset.specs.ValueErrors.{ValueErrorValue}
use Rattle.globset.specs.SetValue.{set_globs}
use Rattle.globsift.specs.declared.arguments.ParsedCommand.{ParsedCommand}
use Rattle.globsift.specs.declared.arguments.fault.CommandFault.{CommandFault}
use Rattle.globsift.specs.declared.arguments.fault.CommandFault.TheVariants as faults

-- A command as contracts see it.
pub record CommandValue : Type 0 where
  -- the globs of its set
  pub globs : List GlobValue
  -- whether the output is numbered
  pub numbered : Bool

-- the command that the program holds, as contracts see it
abbrev pub command_value : ParsedCommand → CommandValue
command_value command = record { globs = set_globs command.set; numbered = command.numbered }

-- An error as contracts see it: its texts are lists of bytes, wherever the program keeps them.
pub data FaultValue : Type 0 where
  -- this argument starts with `-` and is no flag
  unknown_option : List ℕ → FaultValue
  -- there is no glob, and no `--set`
  no_glob : FaultValue
  -- no argument follows `--set`
  set_without_text : FaultValue
  -- there is an argument other than `-n`, `--set` and its text
  set_not_alone : FaultValue
  -- the text after `--set` is not JSON
  not_json : FaultValue
  -- an argument is not a glob, or memory ran out
  glob_error : ErrorValue → FaultValue
  -- the JSON value is not an array of globs
  value_error : ValueErrorValue → FaultValue

-- the error that the program holds, as contracts see it
abbrev pub fault_value : CommandFault → FaultValue
fault_value (faults.UnknownOption argument) = unknown_option (string_bytes argument)
fault_value faults.NoGlob = no_glob
fault_value faults.SetWithoutText = set_without_text
fault_value faults.SetNotAlone = set_not_alone
fault_value faults.NotJson = not_json
fault_value (faults.Glob error) = glob_error error
fault_value (faults.Value error) = value_error error

-- The error is that memory ran out, or it is the error of `result`.
abbrev pub IsFaultOf : {X : Type 0} → Result X FaultValue → CommandFault → Type 0
IsFaultOf result fault = (fault_value fault ≡ glob_error out_of_memory) ⊎ (result ≡ Err (fault_value fault))

-- ---- single arguments

-- the argument is `--`, which ends the flags
abbrev pub is_double_dash : List ℕ → Bool
is_double_dash argument = bytes_eq argument (codes "--")

-- the argument is `--set`
abbrev pub is_dash_set : List ℕ → Bool
is_dash_set argument = bytes_eq argument (codes "--set")

-- the argument is `-n`, for numbered output
abbrev pub is_dash_n : List ℕ → Bool
is_dash_n argument = bytes_eq argument (codes "-n")

-- the argument is `-r`, which sets the default options again
abbrev pub is_dash_r : List ℕ → Bool
is_dash_r argument = bytes_eq argument (codes "-r")

-- the argument is a flag
abbrev pub is_flag : List ℕ → Bool
is_flag argument = list_any (bytes_eq argument)
    (codes "-i" ∷ codes "-s" ∷ codes "-e" ∷ codes "-u" ∷ codes "-b" ∷ codes "-r" ∷ codes "-n" ∷ [])

-- the argument starts with `-`, which is 45
abbrev pub starts_with_dash : List ℕ → Bool
starts_with_dash [] = false
starts_with_dash (byte ∷ bytes) = byte == 45

-- ---- options of a glob. `before` is the arguments before it, the nearest first.

-- the flag is among the arguments before, with no `-r` between it and the glob
abbrev pub is_in_force : List ℕ → List (List ℕ) → Bool
is_in_force flag [] = false
is_in_force flag (argument ∷ before) = bytes_eq argument flag || (not (is_dash_r argument) && is_in_force flag before)

-- The argument as a glob after these arguments. An option whose flag is not in force has its default, and so does
-- `whole_character`, which has no flag.
abbrev pub glob_after : List (List ℕ) → List ℕ → GlobValue
glob_after before argument = record {
  text = argument;
  options = record {
    case_insensitive = is_in_force (codes "-i") before;
    literal_separator = is_in_force (codes "-s") before;
    backslash_escape = not (is_in_force (codes "-b") before);
    empty_alternates = is_in_force (codes "-e") before;
    allow_unclosed_class = is_in_force (codes "-u") before;
    whole_character = false;
  };
}

-- ---- globs

-- the glob, or the first error of its text from the left
abbrev pub glob_or_fault : GlobValue → Result GlobValue FaultValue
glob_or_fault glob = elim (glob_or_parse_error glob) [ Ok glob ↦ Ok glob | Err error ↦ Err (glob_error error) ]

-- an argument with no `--` before it: nothing for a flag, and otherwise a glob or an error
abbrev pub parse_argument : List (List ℕ) → List ℕ → List (Result GlobValue FaultValue)
parse_argument before argument = if is_flag argument then []
    else (if starts_with_dash argument then Err (unknown_option argument) else glob_or_fault (glob_after before argument)) ∷ []

-- The globs and errors of these arguments, in order. After `--` each argument is a glob, and none is a flag.
abbrev pub parse_arguments : List (List ℕ) → List (List ℕ) → List (Result GlobValue FaultValue)
parse_arguments before [] = []
parse_arguments before (argument ∷ arguments) =
    if is_double_dash argument then map (λ glob. glob_or_fault (glob_after before glob)) arguments
    else parse_argument before argument ++ parse_arguments (argument ∷ before) arguments

-- all of the globs, or the first error
abbrev pub collect_globs : List (Result GlobValue FaultValue) → Result (List GlobValue) FaultValue
collect_globs [] = Ok []
collect_globs (Ok glob ∷ more) = elim (collect_globs more) [ Ok globs ↦ Ok (glob ∷ globs) | Err fault ↦ Err fault ]
collect_globs (Err fault ∷ more) = Err fault

-- ---- commands without `--set`

-- `-n` comes before `--`, or anywhere if there is no `--`
abbrev pub is_numbered : List (List ℕ) → Bool
is_numbered [] = false
is_numbered (argument ∷ arguments) = not (is_double_dash argument) && (is_dash_n argument || is_numbered arguments)

-- the command of these globs, at least one
abbrev pub with_some_glob : Bool → List GlobValue → Result CommandValue FaultValue
with_some_glob numbered [] = Err no_glob
with_some_glob numbered (glob ∷ globs) = Ok (record { globs = glob ∷ globs; numbered = numbered })

-- The command of arguments without `--set`: the globs in order, or the first error from the left. That there is no glob
-- comes last.
abbrev pub command_of_globs : List (List ℕ) → Result CommandValue FaultValue
command_of_globs arguments =
    elim (collect_globs (parse_arguments [] arguments)) [ Ok globs ↦ with_some_glob (is_numbered arguments) globs | Err fault ↦ Err fault ]

-- ---- commands with `--set`

-- there is an argument
abbrev pub has_argument : List (List ℕ) → Bool
has_argument [] = false
has_argument (argument ∷ arguments) = true

-- The arguments before the first `--set` and those after it. `None` if no argument is `--set`, or a `--` comes before it:
-- then it is a glob.
abbrev pub split_at_set : List (List ℕ) → Option (List (List ℕ) × List (List ℕ))
split_at_set [] = None
split_at_set (argument ∷ arguments) = if is_double_dash argument then None
    else (if is_dash_set argument then Some ([], arguments) else option_map (λ p. (argument ∷ p.0, p.1)) (split_at_set arguments))

-- the same globs, or the same error, as an error of the command line
abbrev pub globs_or_fault : Result (List GlobValue) ValueErrorValue → Result (List GlobValue) FaultValue
globs_or_fault (Ok globs) = Ok globs
globs_or_fault (Err error) = Err (value_error error)

-- The globs of a JSON text. `read` is the value of the text, if it is JSON.
abbrev pub globs_of_json : List ℕ → Result (List GlobValue) FaultValue
globs_of_json text = elim (read text) [ Some value ↦ globs_or_fault (globs_of_value value) | None ↦ Err not_json ]

-- The command of a JSON text. The array may be empty.
abbrev pub command_of_json : Bool → List ℕ → Result CommandValue FaultValue
command_of_json numbered text = elim (globs_of_json text) [ Ok globs ↦ Ok (record { globs = globs; numbered = numbered }) | Err fault ↦ Err fault ]

-- The command of the arguments after `--set`, where each argument before it is `-n`: the text comes first, and each later
-- argument has to be `-n`. The output is numbered if there is an `-n` on either side.
abbrev pub command_of_text : List (List ℕ) → List (List ℕ) → Result CommandValue FaultValue
command_of_text before [] = Err set_without_text
command_of_text before (text ∷ others) =
    if list_all is_dash_n others then command_of_json (has_argument before || has_argument others) text else Err set_not_alone

-- The command of the arguments before and after `--set`. An argument before it other than `-n` is an error: the first error of
-- these arguments, or, if they have none, that `--set` is not alone.
abbrev pub command_of_set : List (List ℕ) → List (List ℕ) → Result CommandValue FaultValue
command_of_set before after = if list_all is_dash_n before then command_of_text before after
    else elim (collect_globs (parse_arguments [] before)) [ Ok globs ↦ Err set_not_alone | Err fault ↦ Err fault ]

-- ---- all

-- The command of these arguments, or the first error from the left. An error of the JSON text comes after all others.
abbrev pub command_of : List (List ℕ) → Result CommandValue FaultValue
command_of arguments = elim (split_at_set arguments) [ Some p ↦ command_of_set p.0 p.1 | None ↦ command_of_globs arguments ]
