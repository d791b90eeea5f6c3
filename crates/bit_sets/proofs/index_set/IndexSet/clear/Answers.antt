use Rattle.std.proofs.Common.{◌≡◌, ◌++◌, not, ℕ, length, take, drop, ◌∙◌, rules}
use Rattle.std.specs.Prelude.{◌&&◌, ◌/◌}
use Rattle.std.proofs.lemmas.List.{places}
use Rattle.bit_sets.specs.Bits.{bit_of}
use Rattle.bit_sets.proofs.lemmas.Summaries.{all_cleared}
use Rattle.bit_sets.proofs.lemmas.FirstWord.{no_bits}
use Rattle.bit_sets.proofs.index_set.IndexSet.clear.Goals as goal

pub returns-clause-none : goal.returns-clause-none
returns-clause-none c =
    let set = c.args.self.now in
    let rest = set.rest.items in
    let new = c.clear_words.new.words in
    let whole : take set.rest.len (new ++ drop (length new) rest) ≡ new = search (rules, places) in
    let cleared : (k : ℕ) → bit_of new k ≡ (not (bit_of set.summary.items (k / 64)) && bit_of rest k) = rw (c.deref.ensures.value, c.deref_mut.ensures.value) at c.clear_words.ensures in
    rw whole (no_bits c.clear_all.new.words new (c.clear_all.auto.words ∙ set.one) c.clear_all.ensures (λ k. cleared k ∙ all_cleared rest set.summary.items set.summed k))
