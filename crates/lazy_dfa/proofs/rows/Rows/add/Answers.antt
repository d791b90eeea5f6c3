use Rattle.std.proofs.Common.{◌≡◌, ◌+◌, slice_set, replicate, ◌∷◌, [], ◌++◌, length, append_assoc, refl, ap, ◌∙◌, arith}
use Rattle.lazy_dfa.proofs.lemmas.Rows.{added_keeps, added_sound}
use Rattle.lazy_dfa.proofs.rows.Rows.add.Goals as goal

pub returns-clause-kept : goal.returns-clause-kept
returns-clause-kept c =
    let rows = c.args.self.now in
    let list = c.args.list.now in
    let number : c.len-row.result ≡ length rows.starts.items = omega (arith, c.len-row.ensures, rows.starts.ok.0) in
    let start : c.len-start.result ≡ length rows.lists.items = omega (arith, c.len-start.ensures, rows.lists.ok.0) in
    added_keeps c.args.dfa.now rows _ list c.args.place record {
      lists = c.extend_within.ensures.items ∙ ap (λ l. l ++ list) c.push_within.ensures.items ∙ append_assoc rows.lists.items (length list ∷ []) list;
      starts = c.push_within-2.ensures.items ∙ ap (λ n. rows.starts.items ++ n ∷ []) start;
      entries = c.zeros_within.ensures.items ∙ ap (λ n. rows.entries.items ++ replicate (n + 1) 0) c.class_count.ensures.count;
      table = ap (λ x. slice_set rows.table.items c.args.place (x + 1)) number;
      seed = refl;
      begin = refl;
    } c.requires.sound

pub returns-clause-sound : goal.returns-clause-sound
returns-clause-sound c =
    let room = c.requires.sound.room in
    let space = c.requires.space in
    let states = c.requires.list in
    let rows = c.args.self.now in
    let list = c.args.list.now in
    let number : c.len-row.result ≡ length rows.starts.items = omega (arith, c.len-row.ensures, rows.starts.ok.0) in
    let start : c.len-start.result ≡ length rows.lists.items = omega (arith, c.len-start.ensures, rows.lists.ok.0) in
    added_sound c.args.dfa.now rows _ list c.args.place record {
      lists = c.extend_within.ensures.items ∙ ap (λ l. l ++ list) c.push_within.ensures.items ∙ append_assoc rows.lists.items (length list ∷ []) list;
      starts = c.push_within-2.ensures.items ∙ ap (λ n. rows.starts.items ++ n ∷ []) start;
      entries = c.zeros_within.ensures.items ∙ ap (λ n. rows.entries.items ++ replicate (n + 1) 0) c.class_count.ensures.count;
      table = ap (λ x. slice_set rows.table.items c.args.place (x + 1)) number;
      seed = refl;
      begin = refl;
    } c.requires.sound states.below states.few space.free states.ordered c.requires.none space.few space.small record {
      lists = omega (arith, room.lists, c.push_within.ensures.capacity, c.extend_within.ensures.capacity);
      starts = omega (arith, room.starts, c.push_within-2.ensures.capacity);
      entries = omega (arith, room.entries, c.zeros_within.ensures.capacity);
    }
