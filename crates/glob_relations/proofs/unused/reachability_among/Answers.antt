use Rattle.std.proofs.Common.{◌≡◌, ℕ, ◌<◌, inl, inr, List, [], ◌∷◌, length, IsTrue, refl, ap, sym, subst, ◌∙◌, arith, true≢false}
use Rattle.std.specs.Prelude.{◌↔◌, IsFalse, Contains}
use Rattle.std.proofs.lemmas.Bool.{eq-eqb, eqb-true}
use Rattle.std.proofs.Math.Logic.{⊎_elim}
use Rattle.bit_sets.specs.Indexes.{has_index}
use Rattle.byte_nfa.specs.Steps.{IsReached}
use Rattle.glob_relations.specs.Answers.{IsCovered, IsMissed}
use Rattle.glob_relations.specs.Shortest.{IsShortest}
use Rattle.glob_relations.specs.Unused.{items_at, IsLeastCover}
use Rattle.glob_relations.proofs.lemmas.Finding.{none_found, not_found_alone}
use Rattle.glob_relations.proofs.lemmas.Indexes.{IsSplit, split_first, split_taken, rest_is}
use Rattle.glob_relations.proofs.lemmas.Unused.{least_none, missed_uncovered, shortest_missed}
use Rattle.glob_relations.proofs.unused.reachability_among.Goals as goal

pub covering_at-requires : goal.covering_at-requires
covering_at-requires g c = λ k at. c.requires.within k (c.loop-rest.invariant.split.early k (subst (λ (xs : List ℕ). Contains xs k) c.deref.ensures.value at))

pub returns-in_default : goal.returns-in_default
returns-in_default g c =
    let matches = g.T.Compared.matches c.args.options in
    let xs : List g.row.T.Denot = c.args.items.now in
    let m = c.args.automaton.now in
    let rest = c.loop-rest.rest.items in
    let path = c.in-Not.path.items in
    let set = c.in_ok-found-in-Not.found in
    let inv = c.loop-rest.invariant in
    let ok = rw c.in-Not.is at c.in_ok-covering_at.ensures in
    let missed = subst (λ (ks : List ℕ). IsShortest (IsMissed matches c.args.item.now (items_at xs ks) c.args.domain) path) c.deref.ensures.value ok in
    let found : (k : ℕ) → IsTrue (has_index set k) ↔ IsReached m path k = subst (λ (l : List ℕ). (k : ℕ) → IsTrue (has_index set k) ↔ IsReached m l k) c.deref-in-Not.ensures.value c.in_ok-found-in-Not.ensures in
    let off : (k : ℕ) → Contains rest k → IsFalse (has_index set k) = subst (λ (l : List ℕ). (k : ℕ) → Contains l k → IsFalse (has_index set k)) c.deref-in-Not-2.ensures.value (rw c.in_default.is at c.place_of_found.ensures) in
    shortest_missed matches xs c.args.item.now c.args.domain c.loop-rest.by.items rest c.args.others.now path inv.split.early inv.split.all missed
    (none_found matches xs m c.args.domain path set c.requires.finds missed.0.0 found rest off)

pub loop-rest-preserved : goal.loop-rest-preserved
loop-rest-preserved g c =
    let matches = g.T.Compared.matches c.args.options in
    let xs : List g.row.T.Denot = c.args.items.now in
    let m = c.args.automaton.now in
    let rest = c.loop-rest.rest.items in
    let path = c.in-Not.path.items in
    let set = c.in_ok-found-in-Not.found in
    let place = c.in-Some.place in
    let ok = rw c.in-Not.is at c.in_ok-covering_at.ensures in
    let missed = ok.0 in
    let found : (k : ℕ) → IsTrue (has_index set k) ↔ IsReached m path k = subst (λ (l : List ℕ). (k : ℕ) → IsTrue (has_index set k) ↔ IsReached m l k) c.deref-in-Not.ensures.value c.in_ok-found-in-Not.ensures in
    let within = rw c.in-Some.is at c.place_of_found.ensures in
    let lt : place < length rest = subst (λ (ks : List ℕ). place < length ks) c.deref-in-Not-2.ensures.value within in
    let fewer = rest_is c.remove.new.self.items rest rest place refl c.remove.ensures.by_index.2 in
    record {
      split = split_taken c.args.others.now c.loop-rest.by.items rest c.push.new.self.items c.remove.new.self.items place c.remove.result lt c.in_ok-push-in-Not.ensures.items c.remove.ensures.value fewer c.loop-rest.invariant.split;
      known = inr (
        missed_uncovered matches c.args.item.now [] c.args.domain path (missed.0, missed.1, refl),
        not_found_alone matches xs m c.args.domain path set c.requires.finds missed.0 found c.args.item.now (items_at xs c.deref.result.now) missed,
      );
    }

pub returns-in-Unknown : goal.returns-in-Unknown
returns-in-Unknown g c =
    let ok = rw c.in-Unknown.is at c.in_ok-covering_at.ensures in
    (c.deref.result.now, λ k at. c.loop-rest.invariant.split.early k (subst (λ (xs : List ℕ). Contains xs k) c.deref.ensures.value at), ok)
