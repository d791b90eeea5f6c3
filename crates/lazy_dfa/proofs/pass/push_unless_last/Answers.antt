use Rattle.std.proofs.Common.{◌≡◌, ◌-◌, length, slice_index, IsTrue, ap, sym, subst, arith, ◌∙◌}
use Rattle.std.specs.Prelude.{◌==◌}
use Rattle.bit_sets.specs.Numbers.{has_number}
use Rattle.bit_sets.proofs.lemmas.Lists.{listed_push, below_more}
use Rattle.byte_nfa.proofs.lemmas.After.{has_number_at}
use Rattle.byte_nfa.proofs.lemmas.Listing.{in_already, or_swapped}
use Rattle.lazy_dfa.proofs.pass.push_unless_last.Goals as goal

pub returns-then-last-number-clause-has : goal.returns-then-last-number-clause-has
returns-then-last-number-clause-has c = λ t.
    let xs = c.args.list.now.items in
    let item = rw (c.in-Some.is, c.deref.ensures.value) at c.last.ensures.item in
    let (some, is) = item.3 in
    let same : slice_index xs (length xs - 1) ≡ c.args.number = sym (is 0) ∙ c.if-last-number.true in
    in_already t c.args.number xs (subst (λ n. IsTrue (has_number n xs)) same (has_number_at xs (length xs - 1) (omega (arith, some))))

pub returns-clause-has : goal.returns-clause-has
returns-clause-has c = λ t. ap (has_number t) c.push_within.ensures.items ∙ listed_push t c.args.number c.args.list.now.items ∙ or_swapped (has_number t c.args.list.now.items) (t == c.args.number)

pub returns-clause-below : goal.returns-clause-below
returns-clause-below c = λ bound lt below. rw c.push_within.ensures.items (below_more bound c.args.number c.args.list.now.items lt below)
