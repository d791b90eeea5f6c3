use Rattle.std.proofs.Common.{◌≡◌, List, Some, inl, refl, sym, subst}
use Rattle.std.specs.Prelude.{slice_get}
use Rattle.glob_relations.specs.declared.rows.SearchRow.{SearchRow}
use Rattle.glob_relations.proofs.lemmas.Equal.{same_row, kept_keys}
use Rattle.glob_relations.proofs.rows.SearchRows.add.Goals as goal

pub returns-else-is_new : goal.returns-else-is_new
returns-else-is_new c =
    let e = c.in_ok-is_new.ensures in
    let at = c.in_ok-is_new.field-0-0 in
    let same = kept_keys c.args.self.now.seen.keys c.insert_full.new.self.keys c.args.row c.in_ok-is_new.is_new c.if-is_new.false e.added e.keys in
    let (k, found, equal) = e.stored in
    let (place, states) = same_row c.args.row k equal in
    inl (same, refl, (at, k, subst (λ (ks : List SearchRow). slice_get ks at ≡ Some k) same found, sym place, sym states))
