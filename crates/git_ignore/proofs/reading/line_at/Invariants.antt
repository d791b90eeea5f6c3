use Rattle.std.proofs.Common.{◌≡◌, ◌≤◌, length}
use Rattle.std.specs.Prelude.{slice_get}
use Rattle.ignore_pattern.specs.Lines.{lines_of}
use Rattle.git_ignore.specs.Rules.{line_at}
use Rattle.git_ignore.proofs.reading.line_at.Given as goal

abbrev pub invariant-loop-left : goal.invariant-loop-left
invariant-loop-left l = record {
  line : slice_get (lines_of l.rest) l.left ≡ line_at (lines_of l.bytes) l.number;
  within : length l.rest ≤ length l.bytes;
}

abbrev pub decreases-loop-left : goal.decreases-loop-left
decreases-loop-left l = l.left
