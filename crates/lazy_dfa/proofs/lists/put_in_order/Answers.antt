use Rattle.std.proofs.Common.{◌≡◌, eqb}
use Rattle.std.specs.List.{dedup}
use Rattle.std.proofs.lemmas.List.Filters.{dedup_is}
use Rattle.std.proofs.lemmas.List.Kept.{Contains-dedup_nat, Contains-from_dedup}
use Rattle.std.proofs.lemmas.Map.Keys.{IsStrictlyIncreasing-dedup}
use Rattle.byte_nfa.proofs.lemmas.Pass.{iff_trans}
use Rattle.lazy_dfa.proofs.lemmas.Ordering.{contained, had, has_moved}
use Rattle.lazy_dfa.proofs.lists.put_in_order.Goals as goal

pub returns-then-ascends-clause-has : goal.returns-then-ascends-clause-has
returns-then-ascends-clause-has c = λ t. has_moved c.args.list.now.items c.reverse.new.self.items c.reverse.ensures.permutation t

pub returns-clause-ordered : goal.returns-clause-ordered
returns-clause-ordered c = rw (dedup_is _ _ _ c.dedup.ensures.filtered) (IsStrictlyIncreasing-dedup _ c.sort_unstable.ensures.sorted)

pub returns-clause-has : goal.returns-clause-has
returns-clause-has c = λ t.
    let sorted = c.sort_unstable.new.self.items in
    let short = c.dedup.new.self.items in
    let is : short ≡ dedup eqb sorted = dedup_is _ _ _ c.dedup.ensures.filtered in
    iff_trans (
      λ h. had sorted t (Contains-from_dedup eqb sorted t (rw is at (contained short t h))),
      λ h. had short t (rw is (Contains-dedup_nat sorted t (contained sorted t h))),
    )
    (iff_trans (has_moved c.reverse.new.self.items sorted c.sort_unstable.ensures.permutation t) (has_moved c.args.list.now.items c.reverse.new.self.items c.reverse.ensures.permutation t))
