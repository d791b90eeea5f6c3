use Rattle.std.proofs.Common.{◌≡◌, ℕ, ◌+◌, ◌<◌, List, [], ◌∷◌, ◌++◌, drop, length, Some, refl, ap, sym, subst, ◌∙◌, arith, append-nil, rules}
use Rattle.std.specs.Prelude.{slice_get, slice_index}
use Rattle.std.proofs.lemmas.List.{drop_more, drop_all, append_assoc}
use Rattle.std.proofs.lemmas.Option.{slice_get_read}
use Rattle.glob_relations.specs.Unused.{with_item, items_at}
use Rattle.glob_relations.specs.inner.Automata.{IsFor, under}
use Rattle.glob_relations.proofs.lemmas.Indexes.{contains_index}
use Rattle.glob_relations.proofs.compared.builder_at.Goals as goal

pub loop-k-init : goal.loop-k-init
loop-k-init g c = record {
  index_count = c.add_to.ensures.index_count ∙ c.new_builder-builder.ensures.index_count;
  items = ((c.args.item.now, 0) ∷ [], c.in_ok-add_to.ensures.added [] c.new_builder-builder.ensures.tokens, refl);
}

pub offset_bounds-items-k : goal.offset_bounds-items-k
offset_bounds-items-k g c =
    let lt : slice_index c.args.by.now c.loop-k.k-index < length c.args.items.now = c.requires.within (slice_index c.args.by.now c.loop-k.k-index) (contains_index c.args.by.now c.loop-k.k-index c.loop-k-test.true) in
    search rules

pub bounds-items-k : goal.bounds-items-k
bounds-items-k g c = c.requires.within (slice_index c.args.by.now c.loop-k.k-index) (contains_index c.args.by.now c.loop-k.k-index c.loop-k-test.true)

pub loop-k-preserved : goal.loop-k-preserved
loop-k-preserved g c =
    let (xs, is, same) = c.loop-k.invariant.items in
    let i = c.loop-k.k-index in
    let all : List g.row.T.Denot = c.args.items.now in
    let by : List ℕ = c.args.by.now in
    let k : ℕ = slice_index by i in
    let x : g.row.T.Denot = c.index-items-k.result in
    let lt : k < length all = c.requires.within k (contains_index by i c.loop-k-test.true) in
    let has : slice_get all k ≡ Some x = slice_get_read all (length all) k x refl lt c.index-items-k.is in
    let more : drop i by ≡ k ∷ drop (i + 1) by = drop_more by i 0 c.loop-k-test.true in
    let items : items_at all (drop i by) ≡ x ∷ items_at all (drop (i + 1) by) = ap (items_at all) more ∙ ap (λ o. with_item o (items_at all (drop (i + 1) by))) has in
    record {
      index_count = c.add_to-in-loop-k.ensures.index_count ∙ c.loop-k.invariant.index_count;
      items = (
        xs ++ (x, 1) ∷ [],
        c.in_ok-add_to-2.ensures.added xs is,
        append_assoc xs ((x, 1) ∷ []) (under 1 (items_at all (drop (i + 1) by))) ∙ sym (ap (λ (l : List g.row.T.Denot). xs ++ under 1 l) items) ∙ same,
      );
    }

pub returns-clause-items : goal.returns-clause-items
returns-clause-items g c =
    let (xs, is, same) = c.loop-k.invariant.items in
    let all : List g.row.T.Denot = c.args.items.now in
    let wanted : List (g.row.T.Denot × ℕ) = (c.args.item.now, 0) ∷ under 1 (items_at all c.args.by.now) in
    let past : drop c.loop-k.k-index c.args.by.now ≡ [] = drop_all c.loop-k.k-index c.args.by.now (omega arith) in
    let whole : xs ≡ wanted = sym (append-nil xs) ∙ sym (ap (λ (l : List ℕ). xs ++ under 1 (items_at all l)) past) ∙ same in
    subst (λ (l : List (g.row.T.Denot × ℕ)). IsFor (g.T.Compared.matches c.args.options) l c.loop-k.builder) whole is
