use Rattle.std.proofs.Common.{refl, arith, ◌∙◌}
use Rattle.lazy_dfa.proofs.lemmas.Rows.{same_sound}
use Rattle.lazy_dfa.proofs.rows.Rows.take_over.Goals as goal

pub returns : goal.returns
returns c = λ d sound other.
    let room = sound.room in
    same_sound d c.args.other.now _ record {
      starts = c.copy_within.ensures.items ∙ c.deref.ensures.value;
      lists = c.copy_within-2.ensures.items ∙ c.deref-2.ensures.value;
    } (c.copy_within-3.ensures.items ∙ c.deref-3.ensures.value) refl
    (rw (c.copy_within-4.ensures.items, c.deref-4.ensures.value, c.copy_within.ensures.items, c.deref.ensures.value, c.copy_within-2.ensures.items, c.deref-2.ensures.value) other.index) record {
      lists = omega (arith, room.lists, c.copy_within-2.ensures.capacity);
      starts = omega (arith, room.starts, c.copy_within.ensures.capacity);
      entries = omega (arith, room.entries, c.copy_within-3.ensures.capacity);
    } other
