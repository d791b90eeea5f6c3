use Rattle.std.proofs.Common.{◌∙◌, true≢false, sym}
use Rattle.bit_sets.specs.StateSets.{has_state}
use Rattle.byte_nfa.proofs.lemmas.Live.{live_put, live_passed}
use Rattle.byte_nfa.proofs.nfa.Nfa.live.Goals as goal
use Rattle.byte_nfa.proofs.nfa.Nfa.live.Goals.{then-is_leading, else-is_leading}

pub loop-s-preserved : goal.loop-s-preserved
loop-s-preserved c =
    let inv = c.loop-s.invariant in
    let a = c.args.self.now.states in
    let test = c.is_leading.ensures in
    elim c.if-is_leading.branch [
      | then-is_leading w ↦ rw w.into-is record {
        room = w.put.ensures.room ∙ inv.room;
        live = live_put a c.loop-s.s (has_state c.loop-s.into) (has_state w.put.new.self) inv.live test.below (test.leads.0 w.if-is_leading.true) w.put.ensures.has;
      }
      | else-is_leading w ↦ rw w.into-is record {
        room = inv.room;
        live = live_passed a c.loop-s.s (has_state c.loop-s.into) inv.live test.below (λ leads. true≢false (sym (test.leads.1 leads) ∙ w.if-is_leading.false));
      }
    ]
