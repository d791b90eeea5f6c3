use Rattle.std.proofs.Common.{◌≡◌, ℕ, List, sym, ap, ◌∙◌, map, length}
use Rattle.std.proofs.lemmas.Bool.{eqb-false}
use Rattle.std.proofs.lemmas.List.{length-map}
use Rattle.glob_path.specs.Entries.{indexes_under}
use Rattle.glob_path.specs.inner.Pairs.{entries_of, pair_entry}
use Rattle.glob_path.specs.inner.Rows.{HasRows}
use Rattle.glob_path.proofs.lemmas.Rows.{rows_built, counted_built}
use Rattle.glob_path.proofs.lemmas.Starts.{hashes_rise}
use Rattle.glob_path.proofs.builder.TableBuilder.build.Goals as goal

pub directory_of-requires : goal.directory_of-requires
directory_of-requires c = rw c.deref-4.ensures.value (hashes_rise _ _ c.in_ok-rows.ensures.hashed c.in_ok-rows.ensures.sorted)

pub of_keys-requires : goal.of_keys-requires
of_keys-requires c =
    let bytes = c.shrink_to_fit.new.self.items in
    let ps = c.self.inside.pairs.items in
    let qs = c.sort.new.pairs.items in
    let made : HasRows bytes c.in_ok-rows.rows.items (map (λ p. p.index) qs) (entries_of bytes qs) = rw (c.deref-2.ensures.value, c.deref-3.ensures.value) at c.in_ok-rows.ensures in
    let same : (q : List ℕ) → indexes_under (entries_of bytes qs) q ≡ indexes_under (entries_of bytes ps) q = rw c.deref.ensures.value at c.in_ok-sort.ensures.same in
    let indexes : c.in_ok-indexes.indexes.items ≡ map (λ p. p.index) qs = rw c.deref-5.ensures.value at c.in_ok-indexes.ensures in
    let entries : c.of-entries.result.value ≡ entries_of bytes ps = c.of-entries.ensures ∙ sym c.self.view_is ∙ ap (λ b. entries_of b ps) (sym c.shrink_to_fit.ensures.items) in
    record {
      has_rows = rows_built bytes ps qs c.in_ok-rows.rows.items c.in_ok-indexes.indexes.items c.of-entries.result.value made same indexes entries;
      has_ends = rw (c.deref-6.ensures.value, c.deref-7.ensures.value) at c.ends_of-ends.ensures;
      has_starts = rw c.deref-4.ensures.value at c.in_ok-directory.ensures;
      counted = counted_built bytes ps qs c.in_ok-indexes.indexes.items c.of-entries.result.value c.in_ok-sort.ensures.len indexes entries;
      some = λ e. eqb-false _ 0 (sym c.is_empty.ensures ∙ c.if-is_empty.false) (c.self.inside.pairs.ok.0 ∙ sym (length-map ps (pair_entry bytes)) ∙ ap length (sym entries ∙ e));
    }
