use Rattle.std.proofs.Common.{◌≡◌, ◌∙◌, ap, length, refl}
use Rattle.std.specs.Prelude.{None, slice_get}
use Rattle.std.specs.Option.{option_map}
use Rattle.std.proofs.lemmas.Option.{slice_get_past, slice_get_read}
use Rattle.git_ignore.specs.Folders.{IgnoreFile}
use Rattle.git_ignore.specs.inner.Stacks.{file_of}
use Rattle.git_ignore.proofs.lemmas.Walks.{stored_at}
use Rattle.git_ignore.proofs.stack.IgnoreStack.rules_at.Goals as goal

pub returns : goal.returns
returns c =
    let files = c.self.inside.files.items in
    let stored = stored_at c.self.inside.ignore_case c.self.inside.folder.items c.self.inside.ignored_by files c.self.inside.levels.items c.self.inside.scratch c.args.self.now c.args.file c.self.invariant c.self.view_is in
    let lookup = rw c.deref.ensures.value at c.in_ok-get.ensures.lookup in
    let at = slice_get_read files (length files) c.args.file _ refl lookup.3.0 lookup.1 in
    stored ∙ ap (λ o. option_map (λ (f : IgnoreFile). f.bytes) (option_map file_of o)) at

pub returns-in_err-get : goal.returns-in_err-get
returns-in_err-get c =
    let files = c.self.inside.files.items in
    let stored = stored_at c.self.inside.ignore_case c.self.inside.folder.items c.self.inside.ignored_by files c.self.inside.levels.items c.self.inside.scratch c.args.self.now c.args.file c.self.invariant c.self.view_is in
    let lookup = rw c.deref.ensures.value at c.in_err-get.ensures.lookup in
    let at : slice_get files c.args.file ≡ None = slice_get_past files c.args.file lookup.3 in
    rw c.from_residual.ensures (stored ∙ ap (λ o. option_map (λ (f : IgnoreFile). f.bytes) (option_map file_of o)) at)
