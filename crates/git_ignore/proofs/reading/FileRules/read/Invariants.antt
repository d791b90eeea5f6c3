use Rattle.std.proofs.Common.{◌≡◌, ◌++◌, ◌≤◌, ◌+◌, length}
use Rattle.ignore_pattern.specs.Lines.{lines_of}
use Rattle.git_ignore.specs.Rules.{rules_from, unread_from}
use Rattle.git_ignore.specs.inner.Entries.{AreReadUpTo}
use Rattle.git_ignore.proofs.reading.FileRules.read.Given as goal

abbrev pub invariant-loop-end : goal.invariant-loop-end
invariant-loop-end l = record {
  rules : AreReadUpTo (rules_from 1 (lines_of l.initial.rest)) (rules_from l.number (lines_of l.rest)) l.rules.patterns.items l.rules.entries.items;
  unread : l.rules.unread.items ++ unread_from l.number (lines_of l.rest) ≡ unread_from 1 (lines_of l.initial.rest);
  number : l.number + length l.rest ≤ length l.initial.rest + 1;
}

abbrev pub decreases-loop-end : goal.decreases-loop-end
decreases-loop-end l = length l.rest
