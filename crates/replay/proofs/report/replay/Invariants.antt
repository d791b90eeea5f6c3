use Rattle.std.proofs.Common.{◌≡◌, ◌+◌, ◌<◌, ◌≤◌, length, take}
use Rattle.std.specs.List.{All, count_by}
use Rattle.replay.specs.Rows.{is_row}
use Rattle.replay.proofs.report.replay.Given as goal

abbrev pub invariant-loop-index : goal.invariant-loop-index
invariant-loop-index l = record {
  rows : l.report.passed + length l.report.failures.items ≡ count_by (λ line. is_row line.now) (take l.index l.lines);
  passed : l.report.passed ≤ l.index;
  failures : All (λ f. f.index < length l.lines) l.report.failures.items;
}
