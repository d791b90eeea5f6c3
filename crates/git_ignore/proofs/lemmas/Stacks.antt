-- What the files of several folders say, and what is stored of them.
use Rattle.std.proofs.Common.{◌≡◌, ℕ, zero, suc, ◌+◌, ◌-◌, ◌<◌, ◌≤◌, List, [], ◌∷◌, ◌++◌, length, take, drop, get_or, Bool, true, false, refl, ap, sym, subst, ◌∙◌, arith, length-append}
use Rattle.std.specs.Prelude.{◌==◌, if◌then◌else◌, map, Option, None, is_some}
use Rattle.std.specs.Str.{bytes_eq}
use Rattle.std.specs.Option.{option_or}
use Rattle.std.proofs.lemmas.Bool.{false_from_ne_true}
use Rattle.std.proofs.lemmas.List.{length-map, map-append, take_more, take-append-le, length-take}
use Rattle.std.proofs.lemmas.Slice.Eq.{bytes_eq-Decides}
use Rattle.std.proofs.Math.Seq.{take-append_seam, take-length}
use Rattle.git_ignore.specs.Folders.{IgnoreFile, is_in, file_rule, files_rule, rule_from}
use Rattle.git_ignore.specs.TwoRules.{first_answer, folders_above, ignoring, ignored_above}
use Rattle.git_ignore.specs.Rules.{deciding_rule}
use Rattle.git_ignore.specs.RulesValue.{FitsAsBefore, FitsRules, ScratchValue}
use Rattle.git_ignore.specs.declared.decision.DecidingRule.{DecidingRule}
use Rattle.git_ignore.specs.declared.folder_rules.FolderRules.{FolderRules}
use Rattle.git_ignore.specs.declared.stack.FolderLevel.{FolderLevel}
use Rattle.git_ignore.specs.inner.Stacks.{file_of, files_of, FitAll, AreLevels}
use Rattle.git_ignore.proofs.lemmas.TwoRules.{option_or_grouped, option_or_nothing, option_or_some}

-- ---- one file more

rule_from_more : (n : ℕ) (files : List IgnoreFile) (f : IgnoreFile) (path : List ℕ) (is_folder : Bool)
    → rule_from n (files ++ f ∷ []) path is_folder ≡ option_or (file_rule (n + length files) path is_folder f) (rule_from n files path is_folder)
rule_from_more n [] f path d =
    let same : n ≡ n + 0 = omega arith in
    ap (λ (k : ℕ). file_rule k path d f) same ∙ sym (option_or_nothing (file_rule (n + 0) path d f))
rule_from_more n (g ∷ gs) f path d =
    let same : suc n + length gs ≡ n + suc (length gs) = omega arith in
    ap (λ (o : Option DecidingRule). option_or o (file_rule n path d g)) (rule_from_more (suc n) gs f path d)
    ∙ option_or_grouped (file_rule (suc n + length gs) path d f) (rule_from (suc n) gs path d) (file_rule n path d g)
    ∙ ap (λ (k : ℕ). option_or (file_rule k path d f) (option_or (rule_from (suc n) gs path d) (file_rule n path d g))) same

file_more : (files : List IgnoreFile) (f : IgnoreFile) (path : List ℕ) (is_folder : Bool)
    → files_rule (files ++ f ∷ []) path is_folder ≡ option_or (file_rule (length files) path is_folder f) (files_rule files path is_folder)
file_more files f path d =
    let same : 0 + length files ≡ length files = omega arith in
    rule_from_more 0 files f path d ∙ ap (λ (k : ℕ). option_or (file_rule k path d f) (files_rule files path d)) same

-- the files up to an index, and the one there
pub files_up_to : (files : List FolderRules) (i : ℕ) (f : FolderRules) (path : List ℕ) (is_folder : Bool) → i < length files → f ≡ get_or files i f
    → files_rule (files_of (take (i + 1) files)) path is_folder ≡ option_or (file_rule i path is_folder (file_of f)) (files_rule (files_of (take i files)) path is_folder)
files_up_to files i f path d h e =
    let count : length (files_of (take i files)) ≡ i = length-map (take i files) file_of ∙ omega (arith, h, length-take i files) in
    ap (λ (fs : List FolderRules). files_rule (files_of fs) path d) (take_more files i f h ∙ ap (λ (x : FolderRules). take i files ++ x ∷ []) (sym e))
    ∙ ap (λ (fs : List IgnoreFile). files_rule fs path d) (map-append file_of (take i files) (f ∷ []))
    ∙ file_more (files_of (take i files)) (file_of f) path d
    ∙ ap (λ (k : ℕ). option_or (file_rule k path d (file_of f)) (files_rule (files_of (take i files)) path d)) count

-- ---- a file of a folder says nothing of the folders above it

not_in : (folder path : List ℕ) → length path < length folder → is_in folder path ≡ false
not_in folder path h = false_from_ne_true (bytes_eq (take (length folder) path) folder) (λ same. absurd (
    let e = ap length ((bytes_eq-Decides (take (length folder) path) folder).0 same) in
    omega (arith, h, e, length-take (length folder) path)))

-- each of these has fewer than n bytes
abbrev AreShorter : ℕ → List (List ℕ) → Type 0
AreShorter n [] = Unit {0}
AreShorter n (f ∷ fs) = (length f < n) × AreShorter n fs

longer : (c : ℕ) (fs : List (List ℕ)) (n : ℕ) → AreShorter n fs → AreShorter (suc n) (map (λ f. c ∷ f) fs)
longer c [] n h = tt
longer c (f ∷ fs) n (h, hs) = (omega (arith, h), longer c fs n hs)

shorter : (p : List ℕ) → AreShorter (length p) (folders_above p)
shorter [] = tt
shorter (c ∷ cs) = of (c == 47) (longer c (folders_above cs) (length cs) (shorter cs))
  where
    of : (b : Bool) → AreShorter (suc (length cs)) (map (λ f. c ∷ f) (folders_above cs))
        → AreShorter (suc (length cs)) (if b then [] ∷ map (λ f. c ∷ f) (folders_above cs) else map (λ f. c ∷ f) (folders_above cs))
    of true h = (omega arith, h)
    of false h = h

says_nothing : (files : List IgnoreFile) (f : IgnoreFile) (fs : List (List ℕ)) → AreShorter (length f.folder) fs
    → first_answer (λ p. ignoring (files_rule (files ++ f ∷ []) p true)) fs ≡ first_answer (λ p. ignoring (files_rule files p true)) fs
says_nothing files f [] h = refl
says_nothing files f (p ∷ fs) (h, hs) =
    let here : files_rule (files ++ f ∷ []) p true ≡ files_rule files p true =
    file_more files f p true ∙ ap (λ (b : Bool). option_or (if b then deciding_rule f.ignore_case f.bytes (length files) (drop (length f.folder) p) true else None) (files_rule files p true)) (not_in f.folder p h) in
    (λ i. option_or (ignoring (here i)) (says_nothing files f fs hs i))

pub added_kept : (files : List IgnoreFile) (f : IgnoreFile) → ignored_above (files_rule (files ++ f ∷ [])) f.folder ≡ ignored_above (files_rule files) f.folder
added_kept files f = says_nothing files f (folders_above f.folder) (shorter f.folder)

-- ---- levels

pub levels_kept : (folder : List ℕ) (files more : List IgnoreFile) (ls : List FolderLevel) → AreLevels folder files ls → AreLevels folder (files ++ more) ls
levels_kept folder files more [] h = tt
levels_kept folder files more (l ∷ ls) (is, h) =
    let same : take l.files (files ++ more) ≡ take l.files files = take-append-le l.files files more is.files in (
      record {
        folder = is.folder;
        files = omega (arith, is.files, length-append files more);
        ignored = is.ignored ∙ ap (λ (fs : List IgnoreFile). ignored_above (files_rule fs) (take l.folder folder)) (sym same);
      },
      subst (λ (fs : List IgnoreFile). AreLevels (take l.folder folder) fs ls) (sym same) h,
    )

-- a folder is entered, whose path is longer
pub level_pushed : (folder more : List ℕ) (files : List IgnoreFile) (l : FolderLevel) (ls : List FolderLevel) → l.folder ≡ length folder → l.files ≡ length files
    → l.ignored_by ≡ ignored_above (files_rule files) folder → AreLevels folder files ls → AreLevels (folder ++ more) files (l ∷ ls)
level_pushed folder more files l ls e n i h =
    let same_folder : take l.folder (folder ++ more) ≡ folder = ap (λ (k : ℕ). take k (folder ++ more)) e ∙ take-append_seam folder more in
    let same_files : take l.files files ≡ files = ap (λ (k : ℕ). take k files) n ∙ take-length files in (
      record {
        folder = omega (arith, e, length-append folder more);
        files = omega (arith, n);
        ignored = i ∙ (λ k. ignored_above (files_rule (sym same_files k)) (sym same_folder k));
      },
      subst (λ (fs : List IgnoreFile). AreLevels (take l.folder (folder ++ more)) fs ls) (sym same_files) (subst (λ (f : List ℕ). AreLevels f files ls) (sym same_folder) h),
    )

-- ---- scratches

pub fit_still : (old new : ScratchValue) (files : List FolderRules) → FitsAsBefore old new → FitAll old files → FitAll new files
fit_still old new files h all k d within = h _ (all k d within)

pub fit_one : (scratch : ScratchValue) (f : FolderRules) → FitsRules scratch f.rules → FitAll scratch (f ∷ [])
fit_one scratch f h zero d within = h
fit_one scratch f h (suc k) d within = absurd (omega (arith, within))

pub fit_still_there : (old scratch : ScratchValue) (files : List FolderRules) → FitAll old files → scratch ≡ old → FitAll scratch files
fit_still_there old scratch files all held = subst (λ (s : ScratchValue). FitAll s files) (sym held) all

-- ---- files from the last to the first

last_of_files : (files : List FolderRules) (count : ℕ) (f : FolderRules) (path : List ℕ) (is_folder : Bool) (o : Option DecidingRule) → 0 < count → count ≤ length files
    → f ≡ get_or files (count - 1) f → o ≡ file_rule (count - 1) path is_folder (file_of f)
    → files_rule (files_of (take count files)) path is_folder ≡ option_or o (files_rule (files_of (take (count - 1) files)) path is_folder)
last_of_files files count f path is_folder o low high at is =
    let same : count ≡ (count - 1) + 1 = omega (arith, low) in let within : count - 1 < length files = omega (arith, low, high) in
    ap (λ (k : ℕ). files_rule (files_of (take k files)) path is_folder) same ∙ files_up_to files (count - 1) f path is_folder within at
    ∙ ap (λ (e : Option DecidingRule). option_or e (files_rule (files_of (take (count - 1) files)) path is_folder)) (sym is)

-- a file decides
pub file_decides : (files : List FolderRules) (count : ℕ) (f : FolderRules) (path : List ℕ) (is_folder : Bool) (o all : Option DecidingRule) → 0 < count → count ≤ length files
    → f ≡ get_or files (count - 1) f → o ≡ file_rule (count - 1) path is_folder (file_of f) → is_some o ≡ true
    → all ≡ files_rule (files_of (take count files)) path is_folder → o ≡ all
file_decides files count f path is_folder o all low high at is some later =
    sym (later ∙ last_of_files files count f path is_folder o low high at is ∙ option_or_some o (files_rule (files_of (take (count - 1) files)) path is_folder) some)

-- a file has no rule that decides
pub file_undecided : (files : List FolderRules) (count : ℕ) (f : FolderRules) (path : List ℕ) (is_folder : Bool) (o all : Option DecidingRule) → 0 < count → count ≤ length files
    → f ≡ get_or files (count - 1) f → o ≡ file_rule (count - 1) path is_folder (file_of f) → o ≡ None
    → all ≡ files_rule (files_of (take count files)) path is_folder → all ≡ files_rule (files_of (take (count - 1) files)) path is_folder
file_undecided files count f path is_folder o all low high at is none later =
    later ∙ last_of_files files count f path is_folder o low high at is ∙ ap (λ (e : Option DecidingRule). option_or e (files_rule (files_of (take (count - 1) files)) path is_folder)) none
