use Rattle.std.proofs.Common.{ℕ, List, subst}
use Rattle.c_objects.specs.Answers.{IsAll}
use Rattle.c_objects.proofs.lemmas.EachIndex.{is_all, not_all}
use Rattle.c_objects.proofs.sets.matches_all_in.Goals as goal

pub returns-then-matches_all-clause-yes : goal.returns-then-matches_all-clause-yes
returns-then-matches_all-clause-yes c = λ _.
    let P : List ℕ → Type 0 = λ p. IsAll c.args.set.now p in
    subst P c.from_bytes.ensures (is_all c.args.set.now c.from_bytes.result c.in-Ok.matches_all c.in-Ok.ensures.ok c.if-matches_all.true)

pub returns-else-matches_all-clause-no : goal.returns-else-matches_all-clause-no
returns-else-matches_all-clause-no c = λ _.
    let P : List ℕ → Type 0 = λ p. ¬ (IsAll c.args.set.now p) in
    subst P c.from_bytes.ensures (not_all c.args.set.now c.from_bytes.result c.in-Ok.matches_all c.in-Ok.ensures.ok c.if-matches_all.false)
