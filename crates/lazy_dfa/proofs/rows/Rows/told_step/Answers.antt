use Rattle.std.proofs.Common.{◌+◌, ◌*◌, inr, IsTrue, slice_index, arith, ap, ◌∙◌}
use Rattle.std.proofs.Math.Logic.{⊎_elim}
use Rattle.bit_sets.specs.Indexes.{has_index}
use Rattle.lazy_dfa.proofs.lemmas.Rows.{known_is, read_entry}
use Rattle.lazy_dfa.proofs.rows.Rows.told_step.Goals as goal
use Rattle.lazy_dfa.proofs.rows.Rows.told_step.Goals.{else-entry-ge-MARKED-via-then-entry-ge-MARKED+then-not-is_told+else-not-tell_marks, else-entry-ge-MARKED-via-then-entry-ge-MARKED+else-not-is_told, else-entry-ge-MARKED-via-else-entry-ge-MARKED}

pub returns-clause-step : goal.returns-clause-step
returns-clause-step c = λ i (lt, is).
    let d = c.args.dfa.now in
    let m = d.run in
    let rows = c.args.self.now in
    let class = c.class_of.result in
    let e = c.entry_at-entry.result in
    let at = c.entry_at-entry.ensures ∙ ap (λ l. slice_index l (c.args.place + class)) c.deref.ensures.value ∙ ap (λ p. slice_index rows.entries.items (p + class)) is ∙ ap (λ n. slice_index rows.entries.items (i * (d.class_count + 1) + n)) c.class_of.ensures in
    let by = read_entry d rows i c.requires.sound lt c.args.byte e (omega arith) at (omega arith) in
    record {
      known = known_is d rows i c.args.byte e c.step_of.result by c.step_of.ensures.plain c.step_of.ensures.marks;
      told = elim c.else-entry-ge-MARKED.branch [
        | else-entry-ge-MARKED-via-then-entry-ge-MARKED+then-not-is_told+else-not-tell_marks w ↦ rw w.found-is (w.tell_marks.ensures.told i (lt, is) w.if-not-tell_marks.false)
        | else-entry-ge-MARKED-via-then-entry-ge-MARKED+else-not-is_told w ↦ rw w.found-is (λ k. (
          λ h. inr h,
          ⊎_elim {C = IsTrue (has_index c.args.found.now k)} (λ (low, a). c.requires.told w.if-not-is_told.false i (lt, is) k low a) (λ h. h),
        ))
        | else-entry-ge-MARKED-via-else-entry-ge-MARKED w ↦ rw w.found-is (λ k. (
          λ h. inr h,
          ⊎_elim {C = IsTrue (has_index c.args.found.now k)} (λ (low, a). absurd ((by.plain (omega (arith, w.if-entry-ge-MARKED.false))).0 (k, low, a))) (λ h. h),
        ))
      ];
    }
