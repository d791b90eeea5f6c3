use Rattle.std.proofs.Common.{◌+◌, ◌*◌, slice_index, arith, ap, ◌∙◌}
use Rattle.std.proofs.lemmas.Bool.{cases_lt, leb-true, le-leb}
use Rattle.std.proofs.Math.Logic.{⊎_elim}
use Rattle.lazy_dfa.proofs.lemmas.Rows.{read_end}
use Rattle.lazy_dfa.proofs.rows.Rows.known_end.Goals as goal

pub returns-clause-some : goal.returns-clause-some
returns-clause-some c = λ i (lt, is).
    let d = c.args.dfa.now in
    let rows = c.args.self.now in
    let e = c.entry_at-end.result in
    let at = c.entry_at-end.ensures ∙ ap (λ l. slice_index l (c.args.place + c.class_count.result)) c.deref.ensures.value ∙ ap (λ p. slice_index rows.entries.items (p + c.class_count.result)) is ∙ ap (λ n. slice_index rows.entries.items (i * (d.class_count + 1) + n)) c.class_count.ensures.count in
    let end = read_end d rows i c.requires.sound lt e at (omega arith) in (
      λ on. end.some (leb-true 2 e on),
      λ (k, low, a). ⊎_elim (λ less. absurd (end.none (omega (arith, less)) k low a)) (λ ge. le-leb 2 e ge) (cases_lt e 2),
    )
