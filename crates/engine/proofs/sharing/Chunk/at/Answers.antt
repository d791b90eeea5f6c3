use Rattle.std.proofs.Common.{◌≡◌, ◌-◌, length, ap, arith, sym, ◌∙◌}
use Rattle.std.specs.Prelude.{Some, slice_get}
use Rattle.byte_nfa.specs.Reading.{is_read}
use Rattle.engine.proofs.lemmas.Chunks.{chunk_pushed, chunk_again, last_in}
use Rattle.engine.proofs.sharing.Chunk.at.Goals as goal
use Rattle.engine.proofs.sharing.Chunk.at.Goals.{in-Some-last, in_default-last+in_ok-push-in_default-last}

pub loop-end-preserved : goal.loop-end-preserved
loop-end-preserved c =
    let a = c.args.automaton.now.states in
    let list = c.args.states.now in
    let l = c.loop-end in
    let inv = l.invariant in
    let st = is_read c.in-Some.like in
    let next = c.in-Some-next_of.next in
    elim c.match-last.branch [
      | in-Some-last w ↦ rw w.nexts-is record {
        order = omega (arith, inv.order);
        within = omega (arith, c.loop-end-test.true);
        chunk =
            let last : slice_get l.nexts.items (length l.nexts.items - 1) ≡ Some next = rw c.deref.ensures.value at (sym w.in-Some-last.ensures.value ∙ ap Some w.if-last-next.true) in
            chunk_again a list c.args.start l.end next st l.nexts.items inv.order inv.chunk c.in-Some-next_of.ensures (last_in l.nexts.items next last);
      }
      | in_default-last+in_ok-push-in_default-last w ↦ rw w.nexts-is record {
        order = omega (arith, inv.order);
        within = omega (arith, c.loop-end-test.true);
        chunk = chunk_pushed a list c.args.start l.end next st l.nexts.items w.push.new.self.items inv.order inv.chunk c.in-Some-next_of.ensures w.in_ok-push-in_default-last.ensures.items;
      }
    ]
