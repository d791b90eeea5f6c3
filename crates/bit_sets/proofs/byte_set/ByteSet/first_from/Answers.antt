use Rattle.std.proofs.Common.{◌<◌, true≢false, sym, ◌∙◌, arith}
use Rattle.std.proofs.lemmas.Bool.{cases_lt}
use Rattle.std.proofs.Math.Logic.{⊎_elim}
use Rattle.bit_sets.proofs.lemmas.Bits.{bit_past}
use Rattle.bit_sets.proofs.byte_set.ByteSet.first_from.Goals as goal

pub overflow_cast-result : goal.overflow_cast-result
overflow_cast-result c =
    let at = c.in-Some.at in
    let within : at < 256 = ⊎_elim {C = at < 256}
    (λ lt. lt)
    (λ past. absurd (true≢false (sym c.in-Some.ensures.1 ∙ bit_past c.args.self.now.words at (omega arith))))
    (cases_lt at 256) in
    omega (arith, within)
