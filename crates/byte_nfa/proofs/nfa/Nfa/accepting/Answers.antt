use Rattle.std.proofs.Common.{◌∙◌, true≢false, sym}
use Rattle.bit_sets.specs.StateSets.{has_state}
use Rattle.byte_nfa.proofs.lemmas.Accepting.{ending_put, ending_passed}
use Rattle.byte_nfa.proofs.nfa.Nfa.accepting.Goals as goal
use Rattle.byte_nfa.proofs.nfa.Nfa.accepting.Goals.{then-is_accepting, else-is_accepting}

pub loop-s-preserved : goal.loop-s-preserved
loop-s-preserved c =
    let inv = c.loop-s.invariant in
    let a = c.args.self.now.states in
    let test = c.is_accepting.ensures in
    elim c.if-is_accepting.branch [
      | then-is_accepting w ↦ rw w.into-is record {
        room = w.put.ensures.room ∙ inv.room;
        accepting = ending_put a c.loop-s.s (has_state c.loop-s.into) (has_state w.put.new.self) inv.accepting test.below (test.ends.0 w.if-is_accepting.true) w.put.ensures.has;
      }
      | else-is_accepting w ↦ rw w.into-is record {
        room = inv.room;
        accepting = ending_passed a c.loop-s.s (has_state c.loop-s.into) inv.accepting test.below (λ ends. true≢false (sym (test.ends.1 ends) ∙ w.if-is_accepting.false));
      }
    ]
