use Rattle.std.proofs.Common.{◌+◌, ◌∷◌, arith, subst, sym, ◌∙◌, true≢false}
use Rattle.std.specs.Prelude.{slice_index}
use Rattle.glob_relations.specs.declared.rows.SearchRow.{SearchRow}
use Rattle.glob_relations.specs.declared.rows.SearchRows.{SearchRows}
use Rattle.glob_relations.specs.declared.rows.Origin.{Origin}
use Rattle.glob_relations.specs.inner.Rows.{AddsRow, AreRows, CameBefore, IsFollowedBy, KeepsRows, WantsRow}
use Rattle.glob_relations.proofs.lemmas.Rows.{adds_sound, adds_before, adds_kept, adds_wanted, get_same, row_back, wants_goes, wants_past}
use Rattle.glob_relations.proofs.lemmas.Leading.{dead_row}
use Rattle.glob_relations.proofs.lemmas.Walks.{followed_all, followed_more, kept_within}
use Rattle.glob_relations.proofs.search.expand.Goals as goal
use Rattle.glob_relations.proofs.search.expand.Goals.{in-Some+then-has_leading+in_ok-add, in-Some+else-has_leading, in_default}

pub returns-clause-followed : goal.returns-clause-followed
returns-clause-followed c = followed_all c.args.automaton.now c.args.question.now c.args.number c.args.bytes.now c.loop-byte.rows c.loop-byte.byte-index (omega arith) c.requires.bytes c.loop-byte.invariant.followed

pub loop-byte-preserved : goal.loop-byte-preserved
loop-byte-preserved c =
    let m = c.args.automaton.now in
    let n = c.args.question.now in
    let number = c.args.number in
    let bytes = c.args.bytes.now in
    let i = c.loop-byte.byte-index in
    let b = slice_index bytes i in
    let old = c.loop-byte.rows in
    let inv = c.loop-byte.invariant in
    let from = c.row.result.now in
    elim c.match-branch-2.branch [
      | in-Some+then-has_leading+in_ok-add w ↦
          let origin : Origin = record { row = number; byte = b } in
          let new = w.add.new.self in
          let row = w.in-Some.row in
          let next = rw w.in-Some.is at c.in_ok-row.ensures.next in
          let added = w.in_ok-add.ensures in
          let keeps = adds_kept old new row origin added in
          rw w.rows-is record {
            room = c.next_row.ensures.room;
            rows = adds_sound old new row origin m n added next.0 (from, inv.number, omega arith, c.row.ensures, next.1) inv.before inv.rows;
            before = adds_before old new row origin (number + 1) added (omega arith) inv.before;
            kept = (λ j r at. keeps.0 j r (inv.kept.0 j r at), λ j o at. keeps.1 j o (inv.kept.1 j o at));
            number = kept_within old new number keeps inv.number;
            followed = followed_more m n number bytes old new i keeps inv.number inv.followed
                (λ r at y wants.
                let same = get_same old.seen.keys number r from (row_back old new keeps number r inv.number at) c.row.ensures in
                adds_wanted old new row origin m n y added inv.rows.len inv.before ((wants_goes m n from b row y next.1).0 (subst (λ (q : SearchRow). WantsRow m n q (b ∷ y)) same wants)));
          }
      | in-Some+else-has_leading w ↦
          let row = w.in-Some.row in
          let next = rw w.in-Some.is at c.in_ok-row.ensures.next in
          let leads = rw w.deref.ensures.value at w.has_leading.ensures in
          rw w.rows-is record {
            room = c.next_row.ensures.room;
            rows = inv.rows;
            before = inv.before;
            kept = inv.kept;
            number = inv.number;
            followed = followed_more m n number bytes old old i (λ j r at. at, λ j o at. at) inv.number inv.followed
                (λ r at y wants.
                let same = get_same old.seen.keys number r from at c.row.ensures in
                let after = (wants_goes m n from b row y next.1).0 (subst (λ (q : SearchRow). WantsRow m n q (b ∷ y)) same wants) in
                absurd (dead_row m n c.args.leading.now row y c.requires.required c.requires.leading (λ t in' on. true≢false (sym (leads t in' on) ∙ w.if-has_leading.false)) after));
          }
      | in_default w ↦
          let none = rw w.in_default.is at c.in_ok-row.ensures.next in
          rw w.rows-is record {
            room = c.next_row.ensures.room;
            rows = inv.rows;
            before = inv.before;
            kept = inv.kept;
            number = inv.number;
            followed = followed_more m n number bytes old old i (λ j r at. at, λ j o at. at) inv.number inv.followed
                (λ r at y wants.
                let same = get_same old.seen.keys number r from at c.row.ensures in
                absurd (wants_past m n from b y none (subst (λ (q : SearchRow). WantsRow m n q (b ∷ y)) same wants)));
          }
    ]
