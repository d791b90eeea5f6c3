-- Arguments parsed one after another.
use Rattle.std.proofs.Common.{◌≡◌, ℕ, List, [], ◌∷◌, ◌++◌, ◌||◌, ap, sym, ◌∙◌, refl, append_assoc, append-nil, cond, Result, Ok, Err, codes, inl, inr}
use Rattle.std.specs.List.{list_any}
use Rattle.std.specs.Str.{bytes_eq}
use Rattle.globset.specs.GlobMatches.{GlobValue}
use Rattle.globsift.specs.Command.{FaultValue, IsFaultOf, is_double_dash, is_in_force, is_numbered, parse_arguments, parse_argument, collect_globs}
use Rattle.globsift.specs.inner.Parsing.{no_flags, parse_globs, parse_all_with_flags, collect_onto}
use Rattle.globsift.specs.declared.arguments.flags.Flags.{Flags}
use Rattle.globsift.specs.declared.arguments.fault.CommandFault.{CommandFault}

-- the flags after these arguments, of which the nearest comes first
abbrev flags_of : List (List ℕ) → Flags
flags_of before = record {
  case_insensitive = is_in_force (codes "-i") before;
  literal_separator = is_in_force (codes "-s") before;
  empty_alternates = is_in_force (codes "-e") before;
  allow_unclosed_class = is_in_force (codes "-u") before;
  no_escape = is_in_force (codes "-b") before;
  numbered = list_any (λ argument. bytes_eq argument (codes "-n")) before;
}

-- parsing with the flags of some arguments is parsing after those arguments
parse_all_with_flags-arguments : (before arguments : List (List ℕ)) → parse_all_with_flags (flags_of before) arguments ≡ parse_arguments before arguments
parse_all_with_flags-arguments before [] = refl
parse_all_with_flags-arguments before (argument ∷ arguments) =
    ap (λ (more : List (Result GlobValue FaultValue)). cond (is_double_dash argument) (parse_globs (flags_of before) arguments) (parse_argument before argument ++ more)) (parse_all_with_flags-arguments (argument ∷ before) arguments)

-- globs before all others
abbrev onto : List GlobValue → Result (List GlobValue) FaultValue → Result (List GlobValue) FaultValue
onto globs (Ok more) = Ok (globs ++ more)
onto globs (Err fault) = Err fault

-- one glob more
onto-more : (globs : List GlobValue) (glob : GlobValue) (r : Result (List GlobValue) FaultValue) →
    onto (globs ++ glob ∷ []) r ≡ onto globs (elim r [ Ok more ↦ Ok (glob ∷ more) | Err fault ↦ Err fault ])
onto-more globs glob (Ok more) = ap Ok (append_assoc globs (glob ∷ []) more)
onto-more globs glob (Err fault) = refl

-- collecting onto globs puts those before what is collected
collect_onto-is : (globs : List GlobValue) (all : List (Result GlobValue FaultValue)) → collect_onto globs all ≡ onto globs (collect_globs all)
collect_onto-is globs [] = ap Ok (sym (append-nil globs))
collect_onto-is globs (Ok glob ∷ more) = collect_onto-is (globs ++ glob ∷ []) more ∙ onto-more globs glob (collect_globs more)
collect_onto-is globs (Err fault ∷ more) = refl

-- no globs before
onto_nothing : (r : Result (List GlobValue) FaultValue) → onto [] r ≡ r
onto_nothing (Ok more) = refl
onto_nothing (Err fault) = refl

-- parsing and collecting from no flags and no globs on
pub collect_onto-arguments : (arguments : List (List ℕ)) (flags : Flags) (globs : List GlobValue) → flags ≡ no_flags → globs ≡ [] →
    collect_onto globs (parse_all_with_flags flags arguments) ≡ collect_globs (parse_arguments [] arguments)
collect_onto-arguments arguments flags globs e f =
    ap (λ (l : Flags). collect_onto globs (parse_all_with_flags l arguments)) e
    ∙ ap (λ (l : List GlobValue). collect_onto l (parse_all_with_flags no_flags arguments)) f
    ∙ ap (collect_onto []) (parse_all_with_flags-arguments [] arguments) ∙ collect_onto-is [] (parse_arguments [] arguments) ∙ onto_nothing (collect_globs (parse_arguments [] arguments))

-- an error of an equal result
pub same_fault : (r s : Result (List GlobValue) FaultValue) (fault : CommandFault) → r ≡ s → IsFaultOf r fault → IsFaultOf s fault
same_fault r s fault e (inl memory) = inl memory
same_fault r s fault e (inr is) = inr (sym e ∙ is)

-- whether the output is numbered, after all arguments were parsed
pub numbered-flags : (arguments : List (List ℕ)) (start middle last : Flags) → start ≡ no_flags → middle.numbered ≡ (start.numbered || is_numbered arguments) → last ≡ middle →
    last.numbered ≡ is_numbered arguments
numbered-flags arguments start middle last e f g =
    ap (λ (l : Flags). l.numbered) g ∙ f ∙ ap (λ (l : Flags). l.numbered || is_numbered arguments) e
