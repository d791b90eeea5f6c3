use Rattle.std.proofs.Common.{◌≡◌, ◌∙◌, ap, get_or, arith}
use Rattle.glob_syntax.specs.declared.class.Membership.TheVariants.{Absent}
use Rattle.glob_syntax.specs.inner.ClassTable.{other_case, with_other_case}
use Rattle.glob_syntax.proofs.lemmas.Classes.{puts_one}
use Rattle.glob_syntax.proofs.class.put.Goals as goal

pub returns : goal.returns
returns c =
    let old = c.args.table.now in
    let other : c.other_case-other.result ≡ other_case c.args.byte = c.other_case-other.ensures in
    let kept : c.with_other_case.result ≡ with_other_case (get_or old (other_case c.args.byte) Absent) = c.with_other_case.ensures ∙ ap (λ o. with_other_case (get_or old o Absent)) other in
    rw (kept, other) (puts_one old c.args.byte c.told-table (omega arith))
