use Rattle.std.proofs.Common.{◌+◌, ◌*◌, inr, IsTrue, slice_index, arith, ap, ◌∙◌}
use Rattle.std.proofs.Math.Logic.{⊎_elim}
use Rattle.bit_sets.specs.Indexes.{has_index}
use Rattle.byte_nfa.proofs.lemmas.Pass.{iff_trans}
use Rattle.byte_nfa.specs.EarlyMatches.{half}
use Rattle.lazy_dfa.specs.inner.Rows.{AcceptsRow}
use Rattle.byte_nfa.proofs.lemmas.Finding.{iff_beside, last_told, none_last}
use Rattle.lazy_dfa.proofs.lemmas.Rows.{read_end}
use Rattle.lazy_dfa.proofs.rows.Rows.tell_known_end.Goals as goal

pub returns-then-end-ge-FIRST-clause-found : goal.returns-then-end-ge-FIRST-clause-found
returns-then-end-ge-FIRST-clause-found c = λ i (lt, is) _ k.
    let d = c.args.dfa.now in
    let m = d.run in
    let rows = c.args.self.now in
    let h = half m in
    let e = c.entry_at-end.result in
    let at = c.entry_at-end.ensures ∙ ap (λ l. slice_index l (c.args.place + c.class_count.result)) c.deref.ensures.value ∙ ap (λ p. slice_index rows.entries.items (p + c.class_count.result)) is ∙ ap (λ n. slice_index rows.entries.items (i * (d.class_count + 1) + n)) c.class_count.ensures.count in
    let listed = (read_end d rows i c.requires.sound lt e at (omega arith)).listed (omega arith) in
    let put = rw (c.deref-then-end-ge-FIRST.ensures.value, c.half-half.ensures) at c.tell_listed.ensures.has in
    iff_trans (put k) (iff_beside (last_told h (AcceptsRow m rows i) _ (λ j small. (λ in'. ((listed.has j).0 in').1, λ a. (listed.has j).1 (small, a))) k))

pub returns-else-end-ge-FIRST-clause-found : goal.returns-else-end-ge-FIRST-clause-found
returns-else-end-ge-FIRST-clause-found c = λ i (lt, is) _ k.
    let d = c.args.dfa.now in
    let m = d.run in
    let rows = c.args.self.now in
    let e = c.entry_at-end.result in
    let at = c.entry_at-end.ensures ∙ ap (λ l. slice_index l (c.args.place + c.class_count.result)) c.deref.ensures.value ∙ ap (λ p. slice_index rows.entries.items (p + c.class_count.result)) is ∙ ap (λ n. slice_index rows.entries.items (i * (d.class_count + 1) + n)) c.class_count.ensures.count in
    let end = read_end d rows i c.requires.sound lt e at (omega arith) in
    (λ h. inr h, ⊎_elim {C = IsTrue (has_index c.args.found.now k)} (λ f. absurd (none_last (half m) (AcceptsRow m rows i) (λ j low a. end.none (omega arith) j low a) k f)) (λ h. h))
