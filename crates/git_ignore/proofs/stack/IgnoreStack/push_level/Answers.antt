use Rattle.std.proofs.Common.{List, ℕ, [], ◌∷◌, ◌++◌, true, ap, sym, refl, arith, ◌∙◌}
use Rattle.git_ignore.specs.Folders.{files_rule}
use Rattle.git_ignore.specs.TwoRules.{deciding, ignoring}
use Rattle.git_ignore.specs.declared.decision.DecideBy.TheVariants.{Git}
use Rattle.git_ignore.specs.declared.stack.FolderLevel.{FolderLevel}
use Rattle.git_ignore.proofs.lemmas.Walks.{folder_entered, stored_files, stored_path}
use Rattle.git_ignore.proofs.stack.IgnoreStack.push_level.Goals as goal

pub invariant_of-self-2 : goal.invariant_of-self-2
invariant_of-self-2 c =
    let files = stored_files c.self.inside.ignore_case c.self.inside.folder.items c.self.inside.ignored_by c.self.inside.files.items c.self.inside.levels.items c.self.inside.scratch c.args.self.now c.self.invariant c.self.view_is in
    let path = stored_path c.self.inside.ignore_case c.self.inside.folder.items c.self.inside.files.items c.self.inside.levels.items c.args.self.now c.self.view_is in
    let level : FolderLevel = record { folder = c.len.result; files = c.len-2.result; ignored_by = c.self.inside.ignored_by } in
    folder_entered c.self.inside.ignore_case c.self.inside.folder.items c.args.name.now c.push_reserved.new.self.items c.self.inside.ignored_by c.args.ignored_by c.self.inside.files.items c.self.inside.levels.items c.push_reserved-2.new.self.items c.self.inside.scratch level
    c.self.invariant (c.push_reserved.ensures.items ∙ ap (λ (p : List ℕ). p ++ 47 ∷ []) (c.in_ok-extend_from_slice.ensures.items ∙ ap (λ (p : List ℕ). p ++ c.args.name.now) c.reserve-2.ensures.items))
    (c.push_reserved-2.ensures.items ∙ ap (λ (ls : List FolderLevel). ls ++ level ∷ []) c.reserve.ensures.items) (omega (arith, c.len.ensures, c.self.inside.folder.ok.0)) (omega (arith, c.len-2.ensures, c.self.inside.files.ok.0)) refl
    (c.requires ∙ (λ i. ignoring (deciding Git (files_rule (sym files i)) (sym path i ++ c.args.name.now) true)))
