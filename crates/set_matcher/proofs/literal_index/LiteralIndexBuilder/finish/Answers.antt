use Rattle.std.proofs.Common.{List, ap, sym, subst, map}
use Rattle.glob_path.specs.Entries.{Entry}
use Rattle.glob_path.specs.Texts.{Texts, entry_of}
use Rattle.set_matcher.specs.inner.LiteralIndex.{KeyParts}
use Rattle.set_matcher.specs.inner.Parts.{HasFolders}
use Rattle.set_matcher.proofs.literal_index.LiteralIndexBuilder.finish.Goals as goal

pub invariant_of-result : goal.invariant_of-result
invariant_of-result c =
    let inside = c.self.inside in
    let folders = c.in_ok-folders.folders in
    let prefixes = ap (λ (t : Texts). t.entries) c.in_ok-new.ensures in
    let ends = ap (λ (t : Texts). t.entries) c.in_ok-new-2.ensures in
    record {
      at_beginning = ap (λ (t : Texts). t.anchor) c.in_ok-new.ensures;
      at_end = ap (λ (t : Texts). t.anchor) c.in_ok-new-2.ensures;
      has_folders = subst (λ (es : List Entry). HasFolders folders c.in_ok-build.field-0 c.in_ok-build-2.field-0 c.in_ok-build-3.field-0 c.in_ok-new.field-0.entries es) (sym ends)
          (subst (λ (es : List Entry). HasFolders folders c.in_ok-build.field-0 c.in_ok-build-2.field-0 c.in_ok-build-3.field-0 es (map entry_of inside.ends.items)) (sym prefixes)
          (subst (λ (es : List Entry). HasFolders folders c.in_ok-build.field-0 c.in_ok-build-2.field-0 es (map entry_of inside.prefixes.items) (map entry_of inside.ends.items)) (sym c.in_ok-build-3.ensures)
          (subst (λ (es : List Entry). HasFolders folders c.in_ok-build.field-0 es inside.extensions (map entry_of inside.prefixes.items) (map entry_of inside.ends.items)) (sym c.in_ok-build-2.ensures)
          (subst (λ (es : List Entry). HasFolders folders es inside.components inside.extensions (map entry_of inside.prefixes.items) (map entry_of inside.ends.items)) (sym c.in_ok-build.ensures)
          (subst (λ (k : KeyParts). HasFolders folders k.paths k.components k.extensions k.prefixes k.ends) (sym c.self.view_is) c.in_ok-folders.ensures)))));
    }
