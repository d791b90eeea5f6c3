use Rattle.std.proofs.Common.{◌-◌, ◌∷◌, drop, length}
use Rattle.glob_syntax.specs.FlatTokens.{all_levels, levels_of}
use Rattle.glob_syntax.specs.Views.{flats}
use Rattle.glob_strategy.specs.inner.Frames.{frame_of, frames_of, Stands}
use Rattle.glob_strategy.proofs.states.add_sequence.Given as goal

abbrev pub invariant-loop-i : goal.invariant-loop-i
invariant-loop-i l = Stands l.options l.fn.builder l.builder (frame_of l.frame ∷ frames_of l.around.items)
    (all_levels (levels_of (flats (drop (length l.tokens - l.i) l.tokens)))) l.exit
