use Rattle.std.proofs.Common.{IsTrue, arith, sym, true≢false, ◌∙◌}
use Rattle.std.proofs.lemmas.Bool.{cases_lt}
use Rattle.std.proofs.Math.Logic.{⊎_elim}
use Rattle.bit_sets.specs.Numbers.{has_number}
use Rattle.bit_sets.specs.StateSets.{has_state}
use Rattle.bit_sets.proofs.lemmas.Lists.{below_more}
use Rattle.glob_relations.proofs.lemmas.Listing.{descending_push, listed_more}
use Rattle.glob_relations.proofs.pass.states_of.Goals as goal

pub loop-s-preserved : goal.loop-s-preserved
loop-s-preserved c =
    let inv = c.loop-s.invariant in
    let (lt, at, between) = c.in-Some.ensures.found in
    let s = c.in-Some.s in
    let n = c.args.limit in
    let list = c.loop-s.list.items in
    rw c.in_ok-push.ensures.items record {
      within = omega (arith, lt, inv.within);
      states = (below_more n s list (omega (arith, lt, inv.within)) inv.states.0, descending_push s c.loop-s.high list lt (λ t listed. ((inv.has t).0 listed).0) inv.states.1);
      has = listed_more n s c.loop-s.high (has_state c.args.set.now) list lt inv.within between inv.has at;
    }
