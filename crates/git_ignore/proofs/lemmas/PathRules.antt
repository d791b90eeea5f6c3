-- What one pass over a path tells of the folders above it.
use Rattle.std.proofs.Common.{◌≡◌, inl, inr, ℕ, ◌+◌, List, [], ◌∷◌, ◌++◌, length, take, get_or, Bool, true, false, ◌||◌, refl, ap, sym, ◌∙◌}
use Rattle.std.specs.Prelude.{◌==◌, ◌<◌, if◌then◌else◌, map, not, Option, Some, None}
use Rattle.std.specs.Option.{option_or}
use Rattle.std.proofs.lemmas.Bool.{eqb-true, false≢true}
use Rattle.bit_sets.specs.Indexes.{has_index}
use Rattle.bit_sets.specs.Texts.{AllBytes}
use Rattle.bit_sets.specs.declared.index_set.IndexSet.{IndexSet}
use Rattle.byte_nfa.specs.Steps.{NfaValue}
use Rattle.engine.specs.Matching.{AddsReached}
use Rattle.ignore_pattern.specs.Automata.{IsAutomatonOf, SomeAbove}
use Rattle.ignore_pattern.specs.Patterns.{pattern_matches}
use Rattle.git_ignore.specs.Folders.{file_rule, files_rule}
use Rattle.git_ignore.specs.Rules.{Rule, deciding_rule, last_rule, patterns_of, rules_of, told}
use Rattle.git_ignore.specs.TwoRules.{first_answer, folders_above, ignoring, last_answer}
use Rattle.git_ignore.specs.declared.decision.DecidingRule.{DecidingRule}
use Rattle.git_ignore.specs.declared.folder_rules.FolderRules.{FolderRules}
use Rattle.git_ignore.specs.declared.path_rule.PathRule.{PathRule}
use Rattle.git_ignore.specs.inner.PathRules.{IsPathRule, NoneAbove, joined}
use Rattle.git_ignore.specs.inner.Stacks.{file_of, files_of}
use Rattle.git_ignore.proofs.lemmas.Entries.{found_above}
use Rattle.git_ignore.proofs.lemmas.Stacks.{files_up_to}

-- ---- truth values

or_left_false : (a b : Bool) → (a || b) ≡ false → a ≡ false
or_left_false true b h = absurd (false≢true (sym h))
or_left_false false b h = refl

or_right_false : (a b : Bool) → (a || b) ≡ false → b ≡ false
or_right_false true b h = absurd (false≢true (sym h))
or_right_false false b h = h

pub not_so : (b : Bool) → not b ≡ true → b ≡ false
not_so true h = absurd (false≢true h)
not_so false h = refl

-- ---- no folder above a path has an answer

first_below : (about : List ℕ → Option DecidingRule) (c : ℕ) (fs : List (List ℕ)) → first_answer about (map (λ f. c ∷ f) fs) ≡ first_answer (λ f. about (c ∷ f)) fs
first_below about c [] = refl
first_below about c (f ∷ fs) = ap (λ (o : Option DecidingRule). option_or (about (c ∷ f)) o) (first_below about c fs)

pub none_first : (about : List ℕ → Option DecidingRule) (path : List ℕ) → NoneAbove about path → first_answer about (folders_above path) ≡ None
none_first about [] h = refl
none_first about (c ∷ cs) h =
    of (c == 47) refl (first_below about c (folders_above cs) ∙ none_first (λ f. about (c ∷ f)) cs (λ folder rest cut. h (c ∷ folder) rest (ap (λ (l : List ℕ). c ∷ l) cut)))
  where
    deeper : List (List ℕ)
    deeper = map (λ f. c ∷ f) (folders_above cs)

    of : (b : Bool) → (c == 47) ≡ b → first_answer about deeper ≡ None → first_answer about (if b then [] ∷ deeper else deeper) ≡ None
    of true e later = (λ i. option_or (h [] cs (ap (λ (x : ℕ). x ∷ cs) (eqb-true c 47 e)) i) (later i))
    of false e later = later

last_below : (about : List ℕ → Option DecidingRule) (c : ℕ) (fs : List (List ℕ)) → last_answer about (map (λ f. c ∷ f) fs) ≡ last_answer (λ f. about (c ∷ f)) fs
last_below about c [] = refl
last_below about c (f ∷ fs) = ap (λ (o : Option DecidingRule). option_or o (about (c ∷ f))) (last_below about c fs)

pub none_last : (about : List ℕ → Option DecidingRule) (path : List ℕ) → NoneAbove about path → last_answer about (folders_above path) ≡ None
none_last about [] h = refl
none_last about (c ∷ cs) h =
    of (c == 47) refl (last_below about c (folders_above cs) ∙ none_last (λ f. about (c ∷ f)) cs (λ folder rest cut. h (c ∷ folder) rest (ap (λ (l : List ℕ). c ∷ l) cut)))
  where
    deeper : List (List ℕ)
    deeper = map (λ f. c ∷ f) (folders_above cs)

    of : (b : Bool) → (c == 47) ≡ b → last_answer about deeper ≡ None → last_answer about (if b then [] ∷ deeper else deeper) ≡ None
    of true e later = (λ i. option_or (later i) (h [] cs (ap (λ (x : ℕ). x ∷ cs) (eqb-true c 47 e)) i))
    of false e later = later

-- ---- the rules of a file

-- if no rule matches a folder that is not negated, none ignores it
none_ignores : (c : Bool) (file : ℕ) (path folder rest : List ℕ) (rules : List Rule) → path ≡ folder ++ 47 ∷ rest → (SomeAbove c false (patterns_of rules) path → ⊥)
    → ignoring (told file (last_rule c folder true rules)) ≡ None
none_ignores c file path folder rest [] cut lacks = refl
none_ignores c file path folder rest (r ∷ rules) cut lacks = of (last_rule c folder true rules) (none_ignores c file path folder rest rules cut (λ some. lacks (inr some)))
  where
    here : (negated m : Bool) → r.pattern.negated ≡ negated → pattern_matches c r.pattern folder ≡ m → ignoring (told file (if m then Some r else None)) ≡ None
    here negated false is e = refl
    here false true is e = absurd (lacks (inl (is, (folder, rest, cut, e))))
    here true true is e = (λ i. if is i then None else Some (record { file = file; line = r.line; is_negated = r.pattern.negated }))

    of : (o : Option Rule) → ignoring (told file o) ≡ None
        → ignoring (told file (elim o as (λ _. Option Rule) [ Some last ↦ Some last | None ↦ if pattern_matches c r.pattern folder then Some r else None ])) ≡ None
    of (Some last) h = h
    of None h = here r.pattern.negated (pattern_matches c r.pattern folder) refl refl

-- if none matches it, none applies
none_applies : (c : Bool) (path folder rest : List ℕ) (rules : List Rule) → path ≡ folder ++ 47 ∷ rest → ((negated : Bool) → SomeAbove c negated (patterns_of rules) path → ⊥)
    → last_rule c folder true rules ≡ None
none_applies c path folder rest [] cut lacks = refl
none_applies c path folder rest (r ∷ rules) cut lacks = of (last_rule c folder true rules) (none_applies c path folder rest rules cut (λ negated some. lacks negated (inr some)))
  where
    here : (m : Bool) → pattern_matches c r.pattern folder ≡ m → (if m then Some r else None) ≡ None
    here false e = refl
    here true e = absurd (lacks r.pattern.negated (inl (refl, (folder, rest, cut, e))))

    of : (o : Option Rule) → o ≡ None → (elim o as (λ _. Option Rule) [ Some last ↦ Some last | None ↦ if pattern_matches c r.pattern folder then Some r else None ]) ≡ None
    of (Some last) h = h
    of None h = here (pattern_matches c r.pattern folder) refl

-- what a run finds is what the rules of a file tell
pub run_tells : (c : Bool) (bytes path : List ℕ) (file n : ℕ) (is_folder : Bool) (m : NfaValue) (before after : IndexSet) (r : PathRule) → IsAutomatonOf c (patterns_of (rules_of bytes)) m
    → AllBytes path → AddsReached m path before after → length (patterns_of (rules_of bytes)) ≡ n → r.rule ≡ deciding_rule c bytes file path is_folder
    → r.may_be_ignored ≡ has_index after n → r.may_be_kept ≡ has_index after (n + 1) → IsPathRule (deciding_rule c bytes file) path is_folder r
unfolding deciding_rule
run_tells c bytes path file n is_folder m before after r is all adds count rule ignored kept = record {
  rule = rule;
  not_ignored = λ lacks folder rest cut. none_ignores c file path folder rest rules cut (not_ignored lacks);
  undecided = λ lacks folder rest cut. ap (told file) (none_applies c path folder rest rules cut (neither lacks));
}
  where
    rules : List Rule
    rules = rules_of bytes

    not_ignored : r.may_be_ignored ≡ false → SomeAbove c false (patterns_of rules) path → ⊥
    not_ignored lacks = found_above c (patterns_of rules) m path before after false is all adds (ap (has_index after) count ∙ sym ignored ∙ lacks)

    neither : (r.may_be_ignored || r.may_be_kept) ≡ false → (negated : Bool) → SomeAbove c negated (patterns_of rules) path → ⊥
    neither lacks true = found_above c (patterns_of rules) m path before after true is all adds
        (ap (λ (k : ℕ). has_index after (k + 1)) count ∙ sym kept ∙ or_right_false r.may_be_ignored r.may_be_kept lacks)
    neither lacks false = not_ignored (or_left_false r.may_be_ignored r.may_be_kept lacks)

-- ---- several files

none_either : (o p : Option DecidingRule) → ignoring o ≡ None → ignoring p ≡ None → ignoring (option_or o p) ≡ None
none_either None p lacks none = none
none_either (Some rule) p lacks none = lacks

-- the rules of the files up to an index, and of the one there
pub files_tell : (files : List FolderRules) (i : ℕ) (f : FolderRules) (path : List ℕ) (is_folder : Bool) (told' here : PathRule) → i < length files → f ≡ get_or files i f
    → IsPathRule (files_rule (files_of (take i files))) path is_folder told' → IsPathRule (λ p d. file_rule i p d (file_of f)) path is_folder here
    → IsPathRule (files_rule (files_of (take (i + 1) files))) path is_folder (joined told' here)
files_tell files i f path is_folder told' here low at before last = record {
  rule = (λ k. option_or (last.rule k) (before.rule k)) ∙ sym (more path is_folder);
  not_ignored = λ lacks folder rest cut. ap ignoring (more folder true)
      ∙ none_either (file_rule i folder true (file_of f)) (files_rule (files_of (take i files)) folder true)
      (last.not_ignored (or_right_false told'.may_be_ignored here.may_be_ignored lacks) folder rest cut) (before.not_ignored (or_left_false told'.may_be_ignored here.may_be_ignored lacks) folder rest cut);
  undecided = λ lacks folder rest cut. more folder true
      ∙ (λ k. option_or (last.undecided (second told'.may_be_ignored here.may_be_ignored told'.may_be_kept here.may_be_kept lacks) folder rest cut k)
      (before.undecided (first told'.may_be_ignored here.may_be_ignored told'.may_be_kept here.may_be_kept lacks) folder rest cut k));
}
  where
    more : (p : List ℕ) (d : Bool) → files_rule (files_of (take (i + 1) files)) p d ≡ option_or (file_rule i p d (file_of f)) (files_rule (files_of (take i files)) p d)
    more p d = files_up_to files i f p d low at

    first : (a b x y : Bool) → ((a || b) || (x || y)) ≡ false → (a || x) ≡ false
    first true b x y lacks = lacks
    first false true x y lacks = absurd (false≢true (sym lacks))
    first false false x y lacks = or_left_false x y lacks

    second : (a b x y : Bool) → ((a || b) || (x || y)) ≡ false → (b || y) ≡ false
    second true b x y lacks = absurd (false≢true (sym lacks))
    second false true x y lacks = lacks
    second false false x y lacks = or_right_false x y lacks
