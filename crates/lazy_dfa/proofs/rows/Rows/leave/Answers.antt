use Rattle.std.proofs.Common.{◌≡◌, ℕ, ◌+◌, ◌-◌, ◌<◌, ◌∷◌, length, arith, subst, sym, ◌∙◌}
use Rattle.std.proofs.lemmas.Bool.{eqb-true}
use Rattle.byte_nfa.proofs.lemmas.Pass.{iff_trans, iff_sym}
use Rattle.lazy_dfa.specs.inner.Rows.{GoesTo, KeepsRows}
use Rattle.lazy_dfa.proofs.lemmas.Rows.{accepts_kept, at_kept, place_within, entry_by, keeps_then, marks_kept, marks_on, nothing_listed}
use Rattle.lazy_dfa.proofs.rows.Rows.leave.Goals as goal

row_there : (row i n : ℕ) → row ≡ i → i < n → row < n
row_there row i n same lt = omega (arith, same, lt)

pub write-requires-clause-entry : goal.write-requires-clause-entry
write-requires-clause-entry c =
    let d = c.args.dfa.now in
    let m = d.run in
    let old = c.args.self.now in
    let rows = c.keep_marks-marks.new.self in
    let row = c.row_at-row.result in
    let n = c.keep_marks-marks.result in
    let (i, (lt, is)) = c.requires.row in
    let here = row_there row i _ (c.row_at-row.ensures i is) lt in
    let kept = c.keep_marks-marks.ensures.kept in
    let marks = marks_kept d old rows row n kept here c.keep_marks-marks.ensures.marks in
    let list = c.read_row.new.pass.list in
    let none : length list.items ≡ 0 = omega (arith, eqb-true _ 0 (sym c.is_empty.ensures ∙ c.if-is_empty.true), list.ok) in
    rw c.class_of-class.ensures (entry_by d rows row c.args.byte 1 n c.requires.sound.dfa (omega arith) (omega arith) (omega arith) marks record {
      dead = λ _ y k a. nothing_listed m list.items none y k ((c.read_row.ensures.steps y k).0 ((accepts_kept m old rows row (c.args.byte ∷ y) k (kept.states row here)).1 a));
      row = λ some. absurd (omega (arith, some));
    })

pub write-requires-then-found-clause-entry : goal.write-requires-then-found-clause-entry
write-requires-then-found-clause-entry c =
    let d = c.args.dfa.now in
    let m = d.run in
    let old = c.args.self.now in
    let rows = c.keep_marks-marks.new.self in
    let new = c.seek-found.new.self in
    let row = c.row_at-row.result in
    let n = c.keep_marks-marks.result in
    let next : ℕ = c.seek-found.result.place in
    let (i, (lt, is)) = c.requires.row in
    let here = row_there row i _ (c.row_at-row.ensures i is) lt in
    let kept : KeepsRows old new = keeps_then old rows new c.keep_marks-marks.ensures.kept (c.seek-found.ensures.kept c.if-found.true) in
    let marks = marks_kept d old new row n kept here c.keep_marks-marks.ensures.marks in
    let back : next ≡ next + 2 - 2 = omega arith in
    let (j, at, states) = rw c.deref.ensures.value at c.seek-found.ensures.row in
    let sound = c.seek-found.ensures.sound in
    let within = place_within j 0 (length new.starts.items) d.class_count at.0 (omega arith) in
    rw c.class_of-class.ensures (entry_by d new row c.args.byte (next + 2) n sound.dfa (omega arith) (omega arith) (omega (arith, within, at.1, sound.len, sound.small)) marks record {
      dead = λ is. absurd (omega (arith, is));
      row = λ some. subst (GoesTo d new row c.args.byte new) back (
        j,
        at,
        λ y k. iff_trans (iff_sym (accepts_kept m old new row (c.args.byte ∷ y) k (kept.states row here))) (iff_trans (c.read_row.ensures.steps y k) (states y k)),
      );
    })

pub returns-then-is_empty-clause-step : goal.returns-then-is_empty-clause-step
returns-then-is_empty-clause-step c = λ i (lt, is).
    let m = c.args.dfa.now.run in
    let list = c.read_row.new.pass.list in
    let none : length list.items ≡ 0 = omega (arith, eqb-true _ 0 (sym c.is_empty.ensures ∙ c.if-is_empty.true), list.ok) in
    rw (sym (c.row_at-row.ensures i is)) record {
      next = λ y k a. nothing_listed m list.items none y k ((c.read_row.ensures.steps y k).0 a);
      marks = marks_on m c.args.self.now c.row_at-row.result c.keep_marks-marks.result c.keep_marks-marks.ensures.marks;
    }

pub returns-then-found-clause-step : goal.returns-then-found-clause-step
returns-then-found-clause-step c = λ i (lt, is).
    let d = c.args.dfa.now in
    let m = d.run in
    let kept = c.write-then-found.ensures.kept in
    let (j, at, states) = rw c.deref.ensures.value at c.seek-found.ensures.row in
    rw (sym (c.row_at-row.ensures i is)) record {
      next = (
        j,
        at_kept d c.seek-found.new.self c.write-then-found.new.self j c.seek-found.result.place kept at,
        λ y k. iff_trans (c.read_row.ensures.steps y k) (iff_trans (states y k) (accepts_kept m c.seek-found.new.self c.write-then-found.new.self j y k (kept.states j at.0))),
      );
      marks = marks_on m c.args.self.now c.row_at-row.result c.keep_marks-marks.result c.keep_marks-marks.ensures.marks;
    }

pub returns-else-found-clause-step : goal.returns-else-found-clause-step
returns-else-found-clause-step c = λ i (lt, is).
    let m = c.args.dfa.now.run in
    let (j, at, states) = rw c.deref.ensures.value at c.seek-found.ensures.row in
    rw (sym (c.row_at-row.ensures i is)) record {
      next = (j, at, λ y k. iff_trans (c.read_row.ensures.steps y k) (states y k));
      marks = marks_on m c.args.self.now c.row_at-row.result c.keep_marks-marks.result c.keep_marks-marks.ensures.marks;
    }

pub returns-then-is_empty-clause-ends : goal.returns-then-is_empty-clause-ends
returns-then-is_empty-clause-ends c = λ i (lt, is). rw (sym (c.row_at-row.ensures i is)) c.read_row.ensures.ends

pub returns-then-found-clause-ends : goal.returns-then-found-clause-ends
returns-then-found-clause-ends c = λ i (lt, is). rw (sym (c.row_at-row.ensures i is)) c.read_row.ensures.ends

pub returns-else-found-clause-ends : goal.returns-else-found-clause-ends
returns-else-found-clause-ends c = λ i (lt, is). rw (sym (c.row_at-row.ensures i is)) c.read_row.ensures.ends
