use Rattle.std.proofs.Common.{◌∙◌, sym, ap, map, drop, length, arith, rules}
use Rattle.std.proofs.lemmas.List.{length-map}
use Rattle.glob_path.proofs.lemmas.Ranges.{taken}
use Rattle.std.proofs.lemmas.List.Sorted.{answers_always}
use Rattle.glob_path.specs.Entries.{indexes_under}
use Rattle.glob_path.specs.declared.trie.Anchor.TheVariants.{End}
use Rattle.glob_path.specs.Texts.{entry_of}
use Rattle.glob_path.specs.inner.Anchors.{entry_from_anchor}
use Rattle.glob_path.proofs.lemmas.Anchors.{under_as_is}
use Rattle.glob_path.proofs.lemmas.Sorting.{is_before, before_ranks, ordered_from, under_stable}
use Rattle.glob_path.proofs.trie.sorted.Goals as goal
use Rattle.glob_path.proofs.trie.sorted.Goals.{in-Start, in-End}

pub returns-clause-order : goal.returns-clause-order
returns-clause-order c =
    ordered_from c.sort_by.new.self.items (c.in_ok-sort_by.ensures.sorted is_before before_ranks (answers_always _ _ _ (λ f a r q k. search rules)))

pub returns-clause-same : goal.returns-clause-same
returns-clause-same c = λ w.
    under_stable c.match-anchor.texts.items c.sort_by.new.self.items (c.in_ok-sort_by.ensures.stable is_before before_ranks (answers_always _ _ _ (λ f a r q k. search rules))) w
    ∙ (elim c.match-anchor.branch [
      | in-Start v ↦
          ap (λ t. indexes_under (map entry_of t.items) w) v.texts-is
          ∙ sym (under_as_is (map entry_of c.args.texts.items) w)
          ∙ ap (λ s. indexes_under (map (entry_from_anchor s) (map entry_of c.args.texts.items)) w) (sym v.in-Start.is)
      | in-End v ↦
          ap (λ t. indexes_under (map entry_of t.items) w) v.texts-is
          ∙ ap (λ l. indexes_under (map entry_of l) w)
          (taken c.args.texts.len v.reverse_all.new.texts (drop (length v.reverse_all.new.texts) c.args.texts.items)
          (omega (arith, c.args.texts.ok.0, ap length v.reverse_all.ensures, ap length v.deref_mut.ensures.value, length-map v.reverse_all.new.texts entry_of, length-map v.deref_mut.result.now entry_of, length-map (map entry_of v.deref_mut.result.now) (entry_from_anchor End))))
          ∙ ap (λ l. indexes_under l w) (v.reverse_all.ensures ∙ ap (λ l. map (entry_from_anchor End) (map entry_of l)) v.deref_mut.ensures.value)
          ∙ ap (λ s. indexes_under (map (entry_from_anchor s) (map entry_of c.args.texts.items)) w) (sym v.in-End.is)
    ])
