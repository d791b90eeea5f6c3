use Rattle.std.proofs.Common.{◌+◌, ◌*◌, slice_index, arith, ap, ◌∙◌}
use Rattle.lazy_dfa.proofs.lemmas.Rows.{known_is, read_entry}
use Rattle.lazy_dfa.proofs.rows.Rows.known_step.Goals as goal

pub returns-clause-step : goal.returns-clause-step
returns-clause-step c = λ i (lt, is).
    let d = c.args.dfa.now in
    let rows = c.args.self.now in
    let class = c.class_of.result in
    let e = c.entry_at-entry.result in
    let at = c.entry_at-entry.ensures ∙ ap (λ l. slice_index l (c.args.place + class)) c.deref.ensures.value ∙ ap (λ p. slice_index rows.entries.items (p + class)) is ∙ ap (λ n. slice_index rows.entries.items (i * (d.class_count + 1) + n)) c.class_of.ensures in
    let by = read_entry d rows i c.requires.sound lt c.args.byte e (omega arith) at (omega arith) in
    known_is d rows i c.args.byte e c.step_of.result by c.step_of.ensures.plain c.step_of.ensures.marks
