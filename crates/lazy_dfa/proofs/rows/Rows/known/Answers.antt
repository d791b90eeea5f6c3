use Rattle.std.proofs.Common.{◌≡◌, ℕ, ◌+◌, ◌-◌, ◌<◌, length, slice_index, true≢false, ap, sym, ◌∙◌, arith}
use Rattle.std.proofs.lemmas.Bool.{cases_lt}
use Rattle.std.proofs.lemmas.Bool.Decides.{Decides-eqb}
use Rattle.std.proofs.lemmas.Slice.Eq.{slice_eq-Decides}
use Rattle.std.proofs.Math.Logic.{⊎_elim}
use Rattle.lazy_dfa.specs.inner.Index.{nth_place}
use Rattle.lazy_dfa.specs.inner.Rows.{states_of}
use Rattle.lazy_dfa.proofs.lemmas.Ordering.{in_range}
use Rattle.lazy_dfa.proofs.rows.Rows.known.Goals.{else-row-len-via-then-row-len+else-eq, else-row-len-via-else-row-len}
use Rattle.lazy_dfa.proofs.rows.Rows.known.Goals as goal

pub loop-probe-preserved : goal.loop-probe-preserved
loop-probe-preserved c = λ p lt.
    let rows = c.args.self.now in
    let n = length rows.table.items in
    let count : c.len.result ≡ n = omega (arith, c.len.ensures, rows.table.ok.0) in
    let place : c.place_of.result ≡ nth_place c.args.hash c.loop-probe.probe n = c.place_of.ensures.place ∙ ap (nth_place c.args.hash c.loop-probe.probe) count in
    let here : c.index.result.now ≡ slice_index rows.table.items (nth_place c.args.hash c.loop-probe.probe n) =
    c.index.ensures ∙ in_range rows.table.items c.place_of.result c.index.result.now (omega (arith, c.place_of.ensures.within, count)) ∙ ap (slice_index rows.table.items) place in
    ⊎_elim {C = (0 < slice_index rows.table.items (nth_place c.args.hash p n)) × ((i : ℕ) → i < length rows.starts.items → slice_index rows.table.items (nth_place c.args.hash p n) ≡ i + 1 → states_of rows i ≡ c.args.list.now → ⊥)}
    (λ low. c.loop-probe.invariant p low)
    (λ high.
    let this : c.loop-probe.probe ≡ p = omega (arith, lt, high) in
    rw (sym this) (
      omega (arith, here, c.if-number-eq0.false),
      λ i small at same.
          let row : c.index.result.now - 1 ≡ i = omega (arith, here, at) in
          elim c.else-row-len.branch [
            | else-row-len-via-then-row-len+else-eq w ↦
                let list = rw (w.deref.ensures.value, w.deref-then-row-len.ensures.value) at w.states_at.ensures ∙ ap (states_of rows) row in
                true≢false (sym ((slice_eq-Decides Decides-eqb w.states_at.result.now c.args.list.now w.eq.result w.eq.ensures).1 (list ∙ same)) ∙ w.if-eq.false)
            | else-row-len-via-else-row-len w ↦ absurd (omega (arith, w.if-row-len.false, c.len-in-loop-probe.ensures, rows.starts.ok.0, small, row))
          ],
    ))
    (cases_lt p c.loop-probe.probe)
