use Rattle.std.specs.Prelude.{Some}
use Rattle.std.proofs.Common.{List, ap, ◌∙◌, subst, slice_index_or, slice_set}
use Rattle.std.proofs.lemmas.List.{set-get_or}
use Rattle.c_objects.specs.declared.lent.Lent.{Lent}
use Rattle.c_objects.specs.Kinds.{IsGlob}
use Rattle.c_objects.proofs.lemmas.LentGlobs.{next_are_globs}
use Rattle.c_objects.proofs.globs.are_globs.Goals as goal

-- The handle is put back as it was, and one more is of a glob.
pub loop-i-preserved : goal.loop-i-preserved
loop-i-preserved c =
    let i = c.loop-i.i in let d = c.index-globs-i.result in
    let P : List Lent → Type 0 = λ (ls : List Lent). IsGlob (Some (slice_index_or ls i d).object) in (
      ap (λ (l : Lent). slice_set c.loop-i.globs i l) c.lends_glob.ensures.same ∙ set-get_or c.loop-i.globs i d ∙ c.loop-i.invariant.0,
      next_are_globs _ i d c.loop-i-test.true c.loop-i.invariant.1 (subst P c.loop-i.invariant.0 (c.lends_glob.ensures.answer.0 c.if-not-lends_glob.false)),
    )
