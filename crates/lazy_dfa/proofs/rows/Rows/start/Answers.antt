use Rattle.std.proofs.Common.{◌≡◌, refl, sym}
use Rattle.byte_nfa.proofs.lemmas.Pass.{iff_trans, iff_sym}
use Rattle.lazy_dfa.proofs.lemmas.Rows.{begun_sound}
use Rattle.lazy_dfa.proofs.rows.Rows.start.Goals as goal

pub returns-clause-begins : goal.returns-clause-begins
returns-clause-begins c =
    let m = c.args.dfa.now.run in
    let (j, at, states) = rw c.first.ensures at c.seek-found.ensures.row in
    (j, at, λ y k. iff_trans (iff_sym (states y k)) (c.requires.dfa.begins y k))

pub returns-clause-sound : goal.returns-clause-sound
returns-clause-sound c =
    let sound = c.seek-found.ensures.sound in
    begun_sound c.args.dfa.now c.seek-found.new.self _ record { starts = refl; lists = refl } refl sound.index record {
      lists = sound.room.lists;
      starts = sound.room.starts;
      entries = sound.room.entries;
    } (λ p at.
    let same : c.seek-found.result.place ≡ p = cc in
    let (j, here, states) = rw c.first.ensures at c.seek-found.ensures.row in
    rw (sym same) (j, here, λ y k. iff_trans (iff_sym (states y k)) (c.requires.dfa.begins y k))) sound
