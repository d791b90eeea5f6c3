use Rattle.std.proofs.Common.{◌<◌, length, arith}
use Rattle.bit_sets.proofs.lemmas.Summaries.{word_within}
use Rattle.bit_sets.proofs.index_set.IndexSet.first_in_rest.Goals as goal

pub overflow_mul-word : goal.overflow_mul-word
overflow_mul-word c =
    let words = c.args.self.now.rest.items in
    let summary = c.args.self.now.summary.items in
    let is = c.args.self.now.summed in
    let on = rw c.deref-2.ensures.value at c.in_ok-word.ensures in
    let lt : c.in_ok-word.word < length words = word_within words summary is c.in_ok-word.word on.1 in
    omega (arith, is.fits, lt)
