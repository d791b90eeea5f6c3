use Rattle.std.proofs.Common.{◌+◌, ◌*◌, slice_index, arith, ap, ◌∙◌}
use Rattle.byte_nfa.proofs.lemmas.Pass.{iff_trans}
use Rattle.byte_nfa.proofs.lemmas.Finding.{iff_beside}
use Rattle.byte_nfa.proofs.lemmas.Told.{told_decided}
use Rattle.byte_nfa.specs.EarlyMatches.{half}
use Rattle.lazy_dfa.proofs.lemmas.Rows.{read_end}
use Rattle.lazy_dfa.proofs.rows.Rows.tell_marks.Goals as goal

pub returns-clause-told : goal.returns-clause-told
returns-clause-told c = λ i (lt, is) _ k.
    let d = c.args.dfa.now in
    let m = d.run in
    let rows = c.args.self.now in
    let h = half m in
    let e = c.entry_at-end.result in
    let at = c.entry_at-end.ensures ∙ ap (λ l. slice_index l (c.args.place + c.class_count.result)) c.deref.ensures.value ∙ ap (λ p. slice_index rows.entries.items (p + c.class_count.result)) is ∙ ap (λ n. slice_index rows.entries.items (i * (d.class_count + 1) + n)) c.class_count.ensures.count in
    let listed = (read_end d rows i c.requires.sound lt e at (omega arith)).listed (omega arith) in
    let put = rw (c.deref-2.ensures.value, c.half-half.ensures) at c.tell_listed.ensures.has in
    iff_trans (put k) (iff_beside (iff_trans (told_decided h _ k) (
      λ (low, in'). (low, ((listed.has (h + k)).0 in').1),
      λ (low, a). (low, (listed.has (h + k)).1 (omega (arith, low), a)),
    )))
