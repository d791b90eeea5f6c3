-- The steps of a walk: its folders, and what is stored of them.
use Rattle.std.proofs.Common.{◌≡◌, ℕ, List, [], ◌∷◌, ◌++◌, length, take, drop, Bool, true, refl, ap, sym, subst, ◌∙◌, append_assoc}
use Rattle.std.specs.Prelude.{map, reverse, Option, slice_get}
use Rattle.std.specs.Option.{option_map}
use Rattle.std.proofs.lemmas.List.{drop-append-le, length-map, map-append, reverse-append, take-append-drop, take-append-le, take-map}
use Rattle.std.proofs.lemmas.List.Elements.{All-append, All-take}
use Rattle.std.proofs.lemmas.Option.{slice_get-map}
use Rattle.std.proofs.Math.Seq.{drop-length, take-append_seam, take-length}
use Rattle.git_ignore.specs.Folders.{IgnoreFile, files_rule}
use Rattle.git_ignore.specs.TwoRules.{deciding, ignored_above, ignoring}
use Rattle.git_ignore.specs.RulesValue.{FitsAsBefore, FitsRules, ScratchValue}
use Rattle.git_ignore.specs.StackValue.{StackValue, file_at, left, stack_files, with_file}
use Rattle.git_ignore.specs.declared.decision.DecideBy.TheVariants.{Git}
use Rattle.git_ignore.specs.declared.decision.DecidingRule.{DecidingRule}
use Rattle.git_ignore.specs.declared.folder_rules.FolderRules.{FolderRules}
use Rattle.git_ignore.specs.declared.stack.FolderLevel.{FolderLevel}
use Rattle.git_ignore.specs.inner.Stacks.{AreIn, AreInFolders, AreLevels, FitAll, above_of, bytes_of, file_of, files_of, here_of}
use Rattle.git_ignore.specs.inner.StackParts.{IsStack, stack_value, walk_of}
use Rattle.git_ignore.proofs.lemmas.Stacks.{added_kept, fit_one, fit_still, level_pushed, levels_kept}
use Rattle.git_ignore.proofs.lemmas.TwoRules.{entered_ignored}

-- ---- the folders of a walk, and their files

here_path : (folder : List ℕ) (files : List IgnoreFile) (ls : List FolderLevel) → (here_of folder files ls).path ≡ folder
here_path folder files [] = refl
here_path folder files (l ∷ ls) = refl

placed_files : (c : Bool) (folder : List ℕ) (files : List IgnoreFile) → AreIn c folder files
    → map (λ (bytes : List ℕ). record { folder = folder; bytes = bytes; ignore_case = c }) (bytes_of files) ≡ files
placed_files c folder [] h = refl
placed_files c folder (f ∷ fs) (is, h) = λ i. sym is i ∷ placed_files c folder fs h i

walk_files : (c : Bool) (folder : List ℕ) (files : List IgnoreFile) (ls : List FolderLevel) → AreInFolders c folder files ls → stack_files (walk_of c folder files ls) ≡ files
walk_files c folder files [] h = placed_files c folder files h
walk_files c folder files (l ∷ ls) (h, hs) =
    (λ i. walk_files c (take l.folder folder) (take l.files files) ls hs i ++ placed_files c folder (drop l.files files) h i) ∙ take-append-drop l.files files

-- the files and the path of a walk are those that are stored
pub stored_files : (c : Bool) (folder : List ℕ) (b : Option DecidingRule) (files : List FolderRules) (levels : List FolderLevel) (scratch : ScratchValue) (v : StackValue)
    → IsStack c folder b files levels scratch → stack_value c folder files levels ≡ v → files_of files ≡ stack_files v
stored_files c folder b files levels scratch v h seen = sym (walk_files c folder (files_of files) (reverse levels) h.placed) ∙ ap stack_files seen

-- the bytes of the file with this index
pub stored_at : (c : Bool) (folder : List ℕ) (b : Option DecidingRule) (files : List FolderRules) (levels : List FolderLevel) (scratch : ScratchValue) (v : StackValue) (k : ℕ)
    → IsStack c folder b files levels scratch → stack_value c folder files levels ≡ v → file_at v k ≡ option_map (λ (f : IgnoreFile). f.bytes) (option_map file_of (slice_get files k))
stored_at c folder b files levels scratch v k h seen =
    ap (λ (fs : List IgnoreFile). option_map (λ (f : IgnoreFile). f.bytes) (slice_get fs k)) (sym (stored_files c folder b files levels scratch v h seen)) ∙ ap (option_map (λ (f : IgnoreFile). f.bytes)) (slice_get-map file_of files k)

pub stored_path : (c : Bool) (folder : List ℕ) (files : List FolderRules) (levels : List FolderLevel) (v : StackValue) → stack_value c folder files levels ≡ v → folder ≡ v.here.path
stored_path c folder files levels v seen = sym (here_path folder (files_of files) (reverse levels)) ∙ ap (λ (v : StackValue). v.here.path) seen

-- the file is in the folder, and its rules ignore case or not
abbrev IsIn : Bool → List ℕ → IgnoreFile → Type 0
IsIn c folder f = f ≡ record { folder = folder; bytes = f.bytes; ignore_case = c }

one_more_in : (c : Bool) (folder : List ℕ) (files : List IgnoreFile) (f : IgnoreFile) → AreIn c folder files → IsIn c folder f → AreIn c folder (files ++ f ∷ [])
one_more_in c folder [] f h is = (is, tt)
one_more_in c folder (g ∷ gs) f (here, h) is = (here, one_more_in c folder gs f h is)

placed_more : (c : Bool) (folder : List ℕ) (files : List IgnoreFile) (f : IgnoreFile) (ls : List FolderLevel) → AreLevels folder files ls → AreInFolders c folder files ls
    → IsIn c folder f → AreInFolders c folder (files ++ f ∷ []) ls
placed_more c folder files f [] levels h is = one_more_in c folder files f h is
placed_more c folder files f (l ∷ ls) (level, levels) (h, hs) is = (
  subst (AreIn c folder) (sym (drop-append-le l.files files (f ∷ []) level.files)) (one_more_in c folder (drop l.files files) f h is),
  subst (λ (fs : List IgnoreFile). AreInFolders c (take l.folder folder) fs ls) (sym (take-append-le l.files files (f ∷ []) level.files)) hs,
)

-- ---- an ignore file of the folder is added

value_added : (c : Bool) (folder : List ℕ) (files : List IgnoreFile) (f : IgnoreFile) (ls : List FolderLevel) → AreLevels folder files ls
    → walk_of c folder (files ++ f ∷ []) ls ≡ with_file (walk_of c folder files ls) f.bytes
value_added c folder files f [] h =
    let more : bytes_of (files ++ f ∷ []) ≡ bytes_of files ++ f.bytes ∷ [] = map-append (λ (f : IgnoreFile). f.bytes) files (f ∷ []) in
    λ i. record { ignore_case = c; here = record { path = folder; files = more i }; above = [] }
value_added c folder files f (l ∷ ls) (level, levels) =
    let kept : take l.files (files ++ f ∷ []) ≡ take l.files files = take-append-le l.files files (f ∷ []) level.files in
    let more : bytes_of (drop l.files (files ++ f ∷ [])) ≡ bytes_of (drop l.files files) ++ f.bytes ∷ [] =
    ap bytes_of (drop-append-le l.files files (f ∷ []) level.files) ∙ map-append (λ (f : IgnoreFile). f.bytes) (drop l.files files) (f ∷ []) in
    λ i. record {
      ignore_case = c;
      here = record { path = folder; files = more i };
      above = here_of (take l.folder folder) (kept i) ls ∷ above_of (take l.folder folder) (kept i) ls;
    }

one_reversed : (ls : List FolderLevel) (l : FolderLevel) → reverse (ls ++ l ∷ []) ≡ l ∷ reverse ls
one_reversed ls l = reverse-append ls (l ∷ [])

pub file_added : (c : Bool) (folder shown bytes : List ℕ) (b : Option DecidingRule) (files all : List FolderRules) (levels : List FolderLevel) (old new : ScratchValue) (r : FolderRules)
    → IsStack c folder b files levels old → all ≡ files ++ r ∷ [] → file_of r ≡ record { folder = shown; bytes = bytes; ignore_case = c } → shown ≡ folder
    → FitsAsBefore old new → FitsRules new r.rules → IsStack c folder b all levels new
file_added c folder shown bytes b files all levels old new r h put is same before fits =
    let place : (file_of r).folder ≡ folder = ap (λ (f : IgnoreFile). f.folder) is ∙ same in
    let in_folder : IsIn c folder (file_of r) = is ∙ (λ i. record { folder = same i; bytes = ap (λ (f : IgnoreFile). f.bytes) (sym is) i; ignore_case = c }) in
    let more : files_of all ≡ files_of files ++ file_of r ∷ [] = ap files_of put ∙ map-append file_of files (r ∷ []) in
    record {
      ignored = h.ignored
          ∙ sym (subst (λ (p : List ℕ). ignored_above (files_rule (files_of files ++ file_of r ∷ [])) p ≡ ignored_above (files_rule (files_of files)) p) place (added_kept (files_of files) (file_of r)))
          ∙ ap (λ (fs : List IgnoreFile). ignored_above (files_rule fs) folder) (sym more);
      above = subst (λ (fs : List IgnoreFile). AreLevels folder fs (reverse levels)) (sym more) (levels_kept folder (files_of files) (file_of r ∷ []) (reverse levels) h.above);
      placed = subst (λ (fs : List IgnoreFile). AreInFolders c folder fs (reverse levels)) (sym more) (placed_more c folder (files_of files) (file_of r) (reverse levels) h.above h.placed in_folder);
      fits = subst (λ (fs : List FolderRules). FitAll new fs) (sym put)
          (All-append (λ (f : FolderRules). FitsRules new f.rules) files (r ∷ []) (fit_still old new files before h.fits) (fit_one new r fits));
    }

pub stack_added : (c : Bool) (folder shown bytes : List ℕ) (b : Option DecidingRule) (files all : List FolderRules) (levels : List FolderLevel) (old : ScratchValue) (r : FolderRules)
    → IsStack c folder b files levels old → all ≡ files ++ r ∷ [] → file_of r ≡ record { folder = shown; bytes = bytes; ignore_case = c }
    → stack_value c folder all levels ≡ with_file (stack_value c folder files levels) bytes
stack_added c folder shown bytes b files all levels old r h put is =
    let more : files_of all ≡ files_of files ++ file_of r ∷ [] = ap files_of put ∙ map-append file_of files (r ∷ []) in
    ap (λ (fs : List IgnoreFile). walk_of c folder fs (reverse levels)) more ∙ value_added c folder (files_of files) (file_of r) (reverse levels) h.above
    ∙ ap (λ (f : IgnoreFile). with_file (stack_value c folder files levels) f.bytes) is

-- ---- a folder is entered

module _ (c : Bool) (folder more : List ℕ) (files : List IgnoreFile) (l : FolderLevel) (ls : List FolderLevel) (e : l.folder ≡ length folder) (n : l.files ≡ length files) where
  same_folder : take l.folder (folder ++ more) ≡ folder
  same_folder = ap (λ (k : ℕ). take k (folder ++ more)) e ∙ take-append_seam folder more

  same_files : take l.files files ≡ files
  same_files = ap (λ (k : ℕ). take k files) n ∙ take-length files

  none_left : drop l.files files ≡ []
  none_left = ap (λ (k : ℕ). drop k files) n ∙ drop-length files

  placed_below : AreInFolders c folder files ls → AreInFolders c (folder ++ more) files (l ∷ ls)
  placed_below h = (
    subst (AreIn c (folder ++ more)) (sym none_left) tt,
    subst (λ (fs : List IgnoreFile). AreInFolders c (take l.folder (folder ++ more)) fs ls) (sym same_files) (subst (λ (f : List ℕ). AreInFolders c f files ls) (sym same_folder) h),
  )

pub folder_entered : (c : Bool) (folder name longer_folder : List ℕ) (b now : Option DecidingRule) (files : List FolderRules) (levels all : List FolderLevel) (scratch : ScratchValue) (l : FolderLevel)
    → IsStack c folder b files levels scratch → longer_folder ≡ folder ++ name ++ 47 ∷ [] → all ≡ levels ++ l ∷ []
    → l.folder ≡ length folder → l.files ≡ length files → l.ignored_by ≡ b → now ≡ ignoring (deciding Git (files_rule (files_of files)) (folder ++ name) true)
    → IsStack c longer_folder now files all scratch
folder_entered c folder name longer_folder b now files levels all scratch l h put pushed e n i is =
    let whole : longer_folder ≡ folder ++ (name ++ 47 ∷ []) = put ∙ append_assoc folder name (47 ∷ []) in
    let counted = n ∙ sym (length-map files file_of) in
    record {
      ignored = is ∙ entered_ignored (files_rule (files_of files)) (folder ++ name) ∙ ap (ignored_above (files_rule (files_of files))) (sym put);
      above = subst (λ (ls : List FolderLevel). AreLevels longer_folder (files_of files) ls) (sym (ap reverse pushed ∙ one_reversed levels l))
          (subst (λ (p : List ℕ). AreLevels p (files_of files) (l ∷ reverse levels)) (sym whole)
          (level_pushed folder (name ++ 47 ∷ []) (files_of files) l (reverse levels) e counted (i ∙ h.ignored) h.above));
      placed = subst (λ (ls : List FolderLevel). AreInFolders c longer_folder (files_of files) ls) (sym (ap reverse pushed ∙ one_reversed levels l))
          (subst (λ (p : List ℕ). AreInFolders c p (files_of files) (l ∷ reverse levels)) (sym whole)
          (placed_below c folder (name ++ 47 ∷ []) (files_of files) l (reverse levels) e counted h.placed));
      fits = h.fits;
    }

-- ---- a folder is left

pub folder_left : (c : Bool) (folder shorter_folder : List ℕ) (b : Option DecidingRule) (files fewer : List FolderRules) (levels rest : List FolderLevel) (scratch : ScratchValue) (l : FolderLevel)
    → IsStack c folder b files levels scratch → levels ≡ rest ++ l ∷ [] → shorter_folder ≡ take l.folder folder → fewer ≡ take l.files files
    → IsStack c shorter_folder l.ignored_by fewer rest scratch
folder_left c folder shorter_folder b files fewer levels rest scratch l h popped cut cut_files =
    let all = subst (λ (ls : List FolderLevel). AreLevels folder (files_of files) ls) (ap reverse popped ∙ one_reversed rest l) h.above in
    let in_folders = subst (λ (ls : List FolderLevel). AreInFolders c folder (files_of files) ls) (ap reverse popped ∙ one_reversed rest l) h.placed in
    let few : files_of fewer ≡ take l.files (files_of files) = ap files_of cut_files ∙ sym (take-map file_of l.files files) in
    record {
      ignored = all.0.ignored ∙ (λ k. ignored_above (files_rule (sym few k)) (sym cut k));
      above = subst (λ (fs : List IgnoreFile). AreLevels shorter_folder fs (reverse rest)) (sym few) (subst (λ (p : List ℕ). AreLevels p (take l.files (files_of files)) (reverse rest)) (sym cut) all.1);
      placed = subst (λ (fs : List IgnoreFile). AreInFolders c shorter_folder fs (reverse rest)) (sym few) (subst (λ (p : List ℕ). AreInFolders c p (take l.files (files_of files)) (reverse rest)) (sym cut) in_folders.1);
      fits = subst (λ (fs : List FolderRules). FitAll scratch fs) (sym cut_files) (All-take (λ (f : FolderRules). FitsRules scratch f.rules) l.files files h.fits);
    }

pub stack_left : (c : Bool) (folder shorter_folder : List ℕ) (files fewer : List FolderRules) (levels rest : List FolderLevel) (l : FolderLevel)
    → levels ≡ rest ++ l ∷ [] → shorter_folder ≡ take l.folder folder → fewer ≡ take l.files files
    → stack_value c shorter_folder fewer rest ≡ left (stack_value c folder files levels)
stack_left c folder shorter_folder files fewer levels rest l popped cut cut_files =
    let few : files_of fewer ≡ take l.files (files_of files) = ap files_of cut_files ∙ sym (take-map file_of l.files files) in
    (λ k. walk_of c (cut k) (few k) (reverse rest))
    ∙ sym (ap (λ (ls : List FolderLevel). left (walk_of c folder (files_of files) ls)) (ap reverse popped ∙ one_reversed rest l))
