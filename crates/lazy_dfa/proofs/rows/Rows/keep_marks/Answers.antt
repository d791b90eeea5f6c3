use Rattle.std.proofs.Common.{inl, inr, true≢false, refl, sym, ◌∙◌}
use Rattle.lazy_dfa.proofs.lemmas.Rows.{marks_by_ends}
use Rattle.lazy_dfa.proofs.rows.Rows.keep_marks.Goals as goal

pub returns-then-is_some-clause-marks : goal.returns-then-is_some-clause-marks
returns-then-is_some-clause-marks c =
    let marks = marks_by_ends c.args.dfa.now.run c.args.self.now c.args.row c.args.ends.now _ c.is_some.result c.is_some.ensures (rw c.half-half.ensures at c.next_below.ensures) c.requires.ends in
    inl (marks.0 c.if-is_some.true, refl)

pub returns-clause-marks : goal.returns-clause-marks
returns-clause-marks c =
    let marks = marks_by_ends c.args.dfa.now.run c.args.self.now c.args.row c.args.ends.now _ c.is_some.result c.is_some.ensures (rw c.half-half.ensures at c.next_below.ensures) c.requires.ends in
    inr (λ h. true≢false (sym (marks.1 h) ∙ c.if-is_some.false), refl)
