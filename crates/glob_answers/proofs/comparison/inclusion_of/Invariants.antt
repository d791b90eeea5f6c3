use Rattle.std.proofs.Common.{take}
use Rattle.glob_answers.specs.Comparison.{TellsEach, TellsInclusion}
use Rattle.glob_answers.proofs.comparison.inclusion_of.Given as goal

abbrev pub invariant-loop-glob : goal.invariant-loop-glob
invariant-loop-glob l = record {
  each : TellsEach (take l.glob-index l.globs) l.by l.domain l.limit l.each.items;
  all : TellsInclusion (take l.glob-index l.globs) l.by l.domain l.each.items l.known;
}
