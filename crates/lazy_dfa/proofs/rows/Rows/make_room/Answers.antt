use Rattle.std.proofs.Common.{refl, sym, subst}
use Rattle.lazy_dfa.specs.inner.Rows.{IsSound, with_table_of}
use Rattle.lazy_dfa.proofs.lemmas.Rows.{same_sound}
use Rattle.lazy_dfa.proofs.rows.Rows.make_room.Goals as goal

pub returns-in-Some-clause-sound : goal.returns-in-Some-clause-sound
returns-in-Some-clause-sound c =
    let d = c.args.dfa.now in
    let old = c.args.self.now in
    let new = c.find_place.new.self in
    let sound = c.requires.sound in
    let found = rw c.in-Some.is at c.find_place.ensures.found in
    subst (IsSound d) (sym c.find_place.ensures.same) (same_sound d old (with_table_of old new) record { starts = refl; lists = refl } refl refl record {
      some = c.find_place.ensures.some;
      found = found;
      ordered = sound.index.ordered;
      distinct = sound.index.distinct;
    } record {
      lists = sound.room.lists;
      starts = sound.room.starts;
      entries = sound.room.entries;
    } sound)
