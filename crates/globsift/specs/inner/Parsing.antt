-- The invariant while arguments are parsed in order: as in `Command`, but by the flags in force instead of the arguments before.
-- Only private functions cite these.
use Rattle.std.specs.Prelude.{◌≡◌, ℕ, List, [], ◌∷◌, ◌++◌, Bool, false, ◌||◌, ◌&&◌, not, Result, Ok, Err, MatchResult, codes, map, if◌then◌else◌}
use Rattle.std.specs.Str.{bytes_eq}
use Rattle.globset.specs.GlobMatches.{GlobValue}
use Rattle.globset.specs.SetValue.{builder_globs}
use Rattle.globsift.specs.Command.{FaultValue, IsFaultOf, collect_globs, is_numbered, parse_arguments, unknown_option, starts_with_dash, is_double_dash, is_flag, is_dash_n, is_dash_r, glob_or_fault}
use Rattle.globsift.specs.declared.arguments.fault.CommandFault.{CommandFault}
use Rattle.globsift.specs.declared.arguments.flags.Flags.{Flags}
use Rattle.globsift.specs.declared.arguments.glob_arguments.GlobArguments.{GlobArguments}

-- no flags
abbrev pub no_flags : Flags
no_flags = record {
  case_insensitive = false;
  literal_separator = false;
  empty_alternates = false;
  allow_unclosed_class = false;
  no_escape = false;
  numbered = false;
}

-- an argument as a glob under the options that the flags ask for
abbrev pub glob_with_flags : Flags → List ℕ → GlobValue
glob_with_flags flags argument = record {
  text = argument;
  options = record {
    case_insensitive = flags.case_insensitive;
    literal_separator = flags.literal_separator;
    backslash_escape = not flags.no_escape;
    empty_alternates = flags.empty_alternates;
    allow_unclosed_class = flags.allow_unclosed_class;
    whole_character = false;
  };
}

-- the flag is in force after this argument, where `on` says whether it was before
abbrev pub stays_on : List ℕ → List ℕ → Bool → Bool
stays_on flag argument on = bytes_eq argument flag || (not (is_dash_r argument) && on)

-- the flags after this argument
abbrev pub flags_after : Flags → List ℕ → Flags
flags_after flags argument = record {
  case_insensitive = stays_on (codes "-i") argument flags.case_insensitive;
  literal_separator = stays_on (codes "-s") argument flags.literal_separator;
  empty_alternates = stays_on (codes "-e") argument flags.empty_alternates;
  allow_unclosed_class = stays_on (codes "-u") argument flags.allow_unclosed_class;
  no_escape = stays_on (codes "-b") argument flags.no_escape;
  numbered = is_dash_n argument || flags.numbered;
}

-- an argument with no `--` before it, after these flags
abbrev pub parse_with_flags : Flags → List ℕ → List (Result GlobValue FaultValue)
parse_with_flags flags argument = if is_flag argument then []
    else (if starts_with_dash argument then Err (unknown_option argument) else glob_or_fault (glob_with_flags flags argument)) ∷ []

-- arguments after `--`, after these flags
abbrev pub parse_globs : Flags → List (List ℕ) → List (Result GlobValue FaultValue)
parse_globs flags arguments = map (λ argument. glob_or_fault (glob_with_flags flags argument)) arguments

-- arguments with no `--` before them, after these flags
abbrev pub parse_all_with_flags : Flags → List (List ℕ) → List (Result GlobValue FaultValue)
parse_all_with_flags flags [] = []
parse_all_with_flags flags (argument ∷ arguments) = if is_double_dash argument then parse_globs flags arguments
    else parse_with_flags flags argument ++ parse_all_with_flags (flags_after flags argument) arguments

-- these globs and then all others, or the first error of those
abbrev pub collect_onto : List GlobValue → List (Result GlobValue FaultValue) → Result (List GlobValue) FaultValue
collect_onto globs [] = Ok globs
collect_onto globs (Ok glob ∷ more) = collect_onto (globs ++ glob ∷ []) more
collect_onto globs (Err fault ∷ more) = Err fault

-- the globs so far, and then the glob of an argument before `--`
abbrev pub with_argument : GlobArguments → List ℕ → Result (List GlobValue) FaultValue
with_argument old argument = collect_onto (builder_globs old.globs) (parse_with_flags old.flags argument)

-- the globs so far, and then the globs of arguments with no `--` before them
abbrev pub with_arguments : GlobArguments → List (List ℕ) → Result (List GlobValue) FaultValue
with_arguments old arguments = collect_onto (builder_globs old.globs) (parse_all_with_flags old.flags arguments)

-- the globs so far, and then the globs of arguments after `--`
abbrev pub with_globs : GlobArguments → List (List ℕ) → Result (List GlobValue) FaultValue
with_globs old arguments = collect_onto (builder_globs old.globs) (parse_globs old.flags arguments)

-- arguments were parsed from the first on, or the first wrong argument is the error
abbrev pub Parses : List (List ℕ) → Result GlobArguments CommandFault → Type 0
Parses arguments result = MatchResult result
    (λ parsed. (collect_globs (parse_arguments [] arguments) ≡ Ok (builder_globs parsed.globs)) × (parsed.flags.numbered ≡ is_numbered arguments))
    (IsFaultOf (collect_globs (parse_arguments [] arguments)))

-- so were those before `--`, after which the result has the others
abbrev pub ParsesUpToEnd : {X : Type 0} → GlobArguments → GlobArguments → List (List ℕ) → (X → List (List ℕ)) → Result X CommandFault → Type 0
ParsesUpToEnd old new arguments after result = MatchResult result
    (λ x. (with_globs new (after x) ≡ with_arguments old arguments) × (new.flags.numbered ≡ (old.flags.numbered || is_numbered arguments)))
    (IsFaultOf (with_arguments old arguments))

-- so was an argument before `--`
abbrev pub ParsesOne : {X : Type 0} → GlobArguments → GlobArguments → List ℕ → Result X CommandFault → Type 0
ParsesOne old new argument result = MatchResult result
    (λ _. (with_argument old argument ≡ Ok (builder_globs new.globs)) × (new.flags ≡ flags_after old.flags argument))
    (IsFaultOf (with_argument old argument))

-- arguments were added as globs
abbrev pub AddsGlobs : {X : Type 0} → GlobArguments → GlobArguments → List (List ℕ) → Result X CommandFault → Type 0
AddsGlobs old new arguments result = MatchResult result
    (λ _. (with_globs old arguments ≡ Ok (builder_globs new.globs)) × (new.flags ≡ old.flags))
    (IsFaultOf (with_globs old arguments))
