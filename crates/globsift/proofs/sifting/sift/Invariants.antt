use Rattle.std.proofs.Common.{◌≡◌, ◌<◌, List, ℕ, [], length, false}
use Rattle.std.specs.Io.KnownBytes.{Consumes}
use Rattle.globset.specs.SetValue.{set_globs}
use Rattle.globsift.specs.inner.Sifting.{Handles}
use Rattle.globsift.proofs.sifting.sift.Given as goal

abbrev pub invariant-loop : goal.invariant-loop
invariant-loop g l = (bytes : List ℕ) × Consumes (g.R.Read.remaining l.initial.reader) (g.R.Read.remaining l.reader) bytes
    × Handles (set_globs l.fn.set) l.fn.numbered bytes l.sifter.rest.items (g.W.Write.contents l.initial.writer) (g.W.Write.contents l.writer) [] l.sifter.output.pending.items false l.sifter.output.any_written
    × (0 < length l.chunk.items) × (l.sifter.output.searcher.set ≡ l.fn.set) × (l.sifter.output.numbered ≡ l.fn.numbered)
