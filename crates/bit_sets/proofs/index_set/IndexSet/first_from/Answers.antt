use Rattle.std.proofs.Common.{◌≡◌, ◌≤◌, ◌<◌, ◌*◌, ℕ, length, false, true≢false, inl, inr, sym, ◌∙◌, arith}
use Rattle.std.proofs.lemmas.Bool.{cases_lt}
use Rattle.bit_sets.specs.Bits.{bit_of}
use Rattle.bit_sets.proofs.lemmas.Bits.{bit_past}
use Rattle.bit_sets.proofs.lemmas.FirstWord.{found_first, none_found, found_rest}
use Rattle.bit_sets.proofs.index_set.IndexSet.first_from.Goals as goal
use Rattle.bit_sets.proofs.index_set.IndexSet.first_from.Goals.{then-from-lt64+in_default, else-from-lt64}

pub returns-in-Some : goal.returns-in-Some
returns-in-Some c =
    let set = c.args.self.now in
    let (low, is, between) = c.in-Some.ensures in
    found_first set.first set.rest.items c.args.from c.in-Some.index set.one low is between

pub returns-in_err-at : goal.returns-in_err-at
returns-in_err-at c =
    let set = c.args.self.now in
    let none : (k : ℕ) → c.args.from ≤ k → k < 64 → bit_of set.first k ≡ false = elim c.if-from-lt64.branch [
      | then-from-lt64+in_default w ↦ λ k le lt. w.in_default.ensures k le (omega (arith, le, lt))
      | else-from-lt64 w ↦ λ k le lt. absurd (omega (arith, w.if-from-lt64.false, le, lt))
    ] in
    rw c.from_residual.ensures (none_found set.first set.rest.items c.args.from c.saturating_sub.result set.one c.saturating_sub.ensures none c.in_err-at.ensures)

pub overflow_add-result : goal.overflow_add-result
overflow_add-result c =
    let set = c.args.self.now in
    let rest = set.rest.items in
    let at = c.in_ok-at.at in
    let lt : at < 64 * length rest = elim (cases_lt at (64 * length rest)) [
      | inl lt ↦ lt
      | inr past ↦ absurd (true≢false (sym c.in_ok-at.ensures.1 ∙ bit_past rest at (omega (arith, past))))
    ] in
    omega (arith, lt, set.summed.fits)

pub returns : goal.returns
returns c =
    let set = c.args.self.now in
    let none : (k : ℕ) → c.args.from ≤ k → k < 64 → bit_of set.first k ≡ false = elim c.if-from-lt64.branch [
      | then-from-lt64+in_default w ↦ λ k le lt. w.in_default.ensures k le (omega (arith, le, lt))
      | else-from-lt64 w ↦ λ k le lt. absurd (omega (arith, w.if-from-lt64.false, le, lt))
    ] in
    let (le, is, between) = c.in_ok-at.ensures in
    found_rest set.first set.rest.items c.args.from c.saturating_sub.result set.one c.saturating_sub.ensures none c.in_ok-at.at le is between
