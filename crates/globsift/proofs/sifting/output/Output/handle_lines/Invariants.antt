use Rattle.std.proofs.Common.{◌≡◌, ◌++◌, List, ℕ, [], length}
use Rattle.globset.specs.SetValue.{set_globs}
use Rattle.globsift.specs.inner.Outputs.{AreEquivalent}
use Rattle.globsift.specs.inner.Sifting.{Handles}
use Rattle.globsift.proofs.sifting.output.Output.handle_lines.Given as goal

abbrev pub invariant-loop-i : goal.invariant-loop-i
invariant-loop-i g l = (seen : List ℕ) × (l.fn.bytes ≡ seen ++ l.rest) × AreEquivalent l.initial.self l.self
    × Handles (set_globs l.initial.self.searcher.set) l.initial.self.numbered seen [] (g.W.Write.contents l.initial.writer) (g.W.Write.contents l.writer) l.initial.self.pending.items l.self.pending.items l.initial.self.any_written l.self.any_written

abbrev pub decreases-loop-i : goal.decreases-loop-i
decreases-loop-i g l = length l.rest
