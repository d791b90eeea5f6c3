use Rattle.std.proofs.Common.{◌+◌, ◌*◌, slice_set, ap, refl}
use Rattle.lazy_dfa.proofs.lemmas.Rows.{written_sound}
use Rattle.lazy_dfa.proofs.rows.Rows.write.Goals as goal

pub returns-clause-sound : goal.returns-clause-sound
returns-clause-sound c =
    let sound = c.requires.sound in
    written_sound c.args.dfa.now c.args.self.now _ c.args.row c.args.column c.args.entry record { starts = refl; lists = refl }
    (ap (λ n. slice_set c.args.self.now.entries.items (c.args.row * (n + 1) + c.args.column) c.args.entry) c.class_count.ensures.count) refl sound.index record {
      lists = sound.room.lists;
      starts = sound.room.starts;
      entries = sound.room.entries;
    } c.requires.row c.requires.column c.requires.entry sound
