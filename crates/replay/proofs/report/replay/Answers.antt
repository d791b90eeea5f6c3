use Rattle.std.proofs.Common.{◌≡◌, ℕ, ◌+◌, ◌<◌, Bool, true, false, List, [], Bor, length, take, get_or, cond, arith, refl, sym, ap, ◌∙◌}
use Rattle.std.specs.List.{count_by}
use Rattle.std.proofs.lemmas.List.{take_all}
use Rattle.std.proofs.lemmas.List.Sums.{count_by_more_yes, count_by_more_no}
use Rattle.replay.specs.Rows.{is_row}
use Rattle.replay.proofs.report.replay.Goals as goal

counted_more : {X : Type 0} (p : X → Bool) (xs : List X) (i : ℕ) (d : X) → i < length xs → count_by p (take (i + 1) xs) ≡ count_by p (take i xs) + cond (p (get_or xs i d)) 1 0
counted_more p xs i d lt = by_test (p (get_or xs i d)) refl
  where
    by_test : (b : Bool) → p (get_or xs i d) ≡ b → count_by p (take (i + 1) xs) ≡ count_by p (take i xs) + cond b 1 0
    by_test true is = count_by_more_yes p xs i d lt is
    by_test false is = omega (arith, count_by_more_no p xs i d lt is)

-- what was counted, with one more line
counted : (lines : List (Bor (List ℕ))) (i : ℕ) (line : Bor (List ℕ)) (before after : ℕ) → i < length lines → before ≡ count_by (λ l. is_row l.now) (take i lines)
    → after ≡ before + cond (is_row (get_or lines i line).now) 1 0 → after ≡ count_by (λ l. is_row l.now) (take (i + 1) lines)
counted lines i line before after lt is more = more ∙ ap (λ n. n + cond (is_row (get_or lines i line).now) 1 0) is ∙ sym (counted_more (λ l. is_row l.now) lines i line lt)

pub loop-index-init : goal.loop-index-init
loop-index-init c = record {
  rows = omega (arith, ap length c.new.ensures.items);
  passed = omega arith;
  failures = rw c.new.ensures.items (λ k d lt. absurd (omega (arith, lt)));
}

pub replay_line-requires : goal.replay_line-requires
replay_line-requires c = record {
  passed = c.loop-index.invariant.passed;
  index = omega arith;
}

pub loop-index-preserved : goal.loop-index-preserved
loop-index-preserved c =
    let lines = c.args.lines.now in
    let none : Bor (List ℕ) = record { ref_ptr = (0, 0); now = [] } in
    let before = c.loop-index.report.passed + length c.loop-index.report.failures.items in
    let after = c.replay_line.new.self.passed + length c.replay_line.new.self.failures.items in
    record {
      rows = counted lines c.loop-index.index none before after c.loop-index-test.true c.loop-index.invariant.rows c.in_ok-replay_line.ensures.rows;
      passed = c.in_ok-replay_line.ensures.passed;
      failures = c.in_ok-replay_line.ensures.failures (length lines) c.loop-index-test.true c.loop-index.invariant.failures;
    }

pub returns : goal.returns
returns c =
    let lines = c.args.lines.now in
    record {
      rows = c.loop-index.invariant.rows ∙ ap (λ xs. count_by (λ line. is_row line.now) xs) (take_all c.loop-index.index lines c.loop-index-test.false);
      failures = c.loop-index.invariant.failures;
    }
