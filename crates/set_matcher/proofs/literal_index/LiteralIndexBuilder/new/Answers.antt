use Rattle.std.proofs.Common.{map}
use Rattle.glob_path.specs.Texts.{entry_of}
use Rattle.set_matcher.proofs.lemmas.LiteralIndex.{nothing_if}
use Rattle.set_matcher.proofs.lemmas.More.{nothing_below_if}
use Rattle.set_matcher.proofs.literal_index.LiteralIndexBuilder.new.Goals as goal

pub returns-clause-found : goal.returns-clause-found
returns-clause-found c = λ path.
    nothing_if _ (λ i. record {
      paths = c.new.ensures i;
      components = c.new-2.ensures i;
      extensions = c.new-3.ensures i;
      prefixes = map entry_of (c.new-4.ensures.items i);
      ends = map entry_of (c.new-5.ensures.items i);
    }) path

pub returns-clause-below : goal.returns-clause-below
returns-clause-below c = λ folder.
    nothing_below_if _ (λ i. record {
      paths = c.new.ensures i;
      components = c.new-2.ensures i;
      extensions = c.new-3.ensures i;
      prefixes = map entry_of (c.new-4.ensures.items i);
      ends = map entry_of (c.new-5.ensures.items i);
    }) folder
