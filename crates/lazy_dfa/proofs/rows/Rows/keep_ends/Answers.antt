use Rattle.std.proofs.Common.{◌≡◌, ◌+◌, ◌*◌, ◌∷◌, [], ◌++◌, length, slice_set, append_assoc, refl, ap, ◌∙◌, arith}
use Rattle.lazy_dfa.proofs.lemmas.Rows.{listed_keeps, listed_sound}
use Rattle.lazy_dfa.proofs.rows.Rows.keep_ends.Goals as goal

pub returns-clause-kept : goal.returns-clause-kept
returns-clause-kept c =
    let d = c.args.dfa.now in
    let rows = c.args.self.now in
    let list = c.list_indexes.new.list.items in
    let count : c.len-2.result ≡ length list = omega (arith, c.len-2.ensures, c.list_indexes.new.list.ok.0) in
    let place : c.len-place.result ≡ length rows.lists.items = omega (arith, c.len-place.ensures, rows.lists.ok.0) in
    listed_keeps d rows _ c.args.row list record {
      lists = c.extend_within.ensures.items ∙ ap (λ l. l ++ c.deref.result.now) c.push_within.ensures.items ∙ append_assoc rows.lists.items (c.len-2.result ∷ []) c.deref.result.now
          ∙ ap (λ l. rows.lists.items ++ c.len-2.result ∷ l) c.deref.ensures.value ∙ ap (λ n. rows.lists.items ++ n ∷ list) count;
      starts = refl;
      entries = ap (λ n. slice_set rows.entries.items n (c.len-place.result + 2)) (ap (λ n. c.args.row * (n + 1) + c.class_count-2.result) c.class_count.ensures.count ∙ ap (λ n. c.args.row * (d.class_count + 1) + n) c.class_count-2.ensures.count)
          ∙ ap (λ n. slice_set rows.entries.items (c.args.row * (d.class_count + 1) + d.class_count) (n + 2)) place;
      table = refl;
      seed = refl;
      begin = refl;
    } c.requires.sound c.requires.row

pub returns-clause-sound : goal.returns-clause-sound
returns-clause-sound c =
    let room = c.requires.sound.room in
    let listed = rw c.half-half.ensures at (c.list_indexes.ensures.has c.if-not-list_indexes.false) in
    let below = rw c.half-half.ensures at (c.list_indexes.ensures.below c.if-not-list_indexes.false) in
    let d = c.args.dfa.now in
    let rows = c.args.self.now in
    let list = c.list_indexes.new.list.items in
    let count : c.len-2.result ≡ length list = omega (arith, c.len-2.ensures, c.list_indexes.new.list.ok.0) in
    let place : c.len-place.result ≡ length rows.lists.items = omega (arith, c.len-place.ensures, rows.lists.ok.0) in
    listed_sound d rows _ c.args.row list record {
      lists = c.extend_within.ensures.items ∙ ap (λ l. l ++ c.deref.result.now) c.push_within.ensures.items ∙ append_assoc rows.lists.items (c.len-2.result ∷ []) c.deref.result.now
          ∙ ap (λ l. rows.lists.items ++ c.len-2.result ∷ l) c.deref.ensures.value ∙ ap (λ n. rows.lists.items ++ n ∷ list) count;
      starts = refl;
      entries = ap (λ n. slice_set rows.entries.items n (c.len-place.result + 2)) (ap (λ n. c.args.row * (n + 1) + c.class_count-2.result) c.class_count.ensures.count ∙ ap (λ n. c.args.row * (d.class_count + 1) + n) c.class_count-2.ensures.count)
          ∙ ap (λ n. slice_set rows.entries.items (c.args.row * (d.class_count + 1) + d.class_count) (n + 2)) place;
      table = refl;
      seed = refl;
      begin = refl;
    } c.requires.sound c.requires.row below (λ k. (
      λ at. let (lt, has) = (listed k).0 at in (lt, (c.requires.ends k lt).0 has),
      λ (lt, a). (listed k).1 (lt, (c.requires.ends k lt).1 a),
    )) c.requires.some record {
      lists = omega (arith, room.lists, c.push_within.ensures.capacity, c.extend_within.ensures.capacity);
      starts = room.starts;
      entries = room.entries;
    }
