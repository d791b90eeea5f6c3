use Rattle.std.proofs.Common.{sym, ◌∙◌}
use Rattle.bit_sets.specs.StateSets.{has_state}
use Rattle.bit_sets.specs.Bytes.{set_at}
use Rattle.byte_nfa.proofs.lemmas.Live.{reads_lead}
use Rattle.byte_nfa.proofs.state.State.is_leading.Goals as goal

pub returns-then-is_in : goal.returns-then-is_in
returns-then-is_in c =
    let below = rw c.in-Bytes.is at c.requires.below in
    rw c.in-Bytes.is
    (reads_lead (set_at c.args.sets.now c.in-Bytes.set) c.in-Bytes.next c.args.s (has_state c.args.live.now) (sym c.is_in.ensures ∙ c.if-is_in.true) below
    (rw c.set_of.ensures at c.has_some.ensures))
