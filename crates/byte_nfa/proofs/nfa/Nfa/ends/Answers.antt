use Rattle.std.proofs.Common.{[], false, arith, ◌∙◌}
use Rattle.bit_sets.specs.Indexes.{has_index}
use Rattle.bit_sets.specs.StateSets.{has_state}
use Rattle.byte_nfa.specs.Steps.{state}
use Rattle.byte_nfa.proofs.lemmas.Pass.{iff_trans, read_taken, stays_at_end, names_it, names_none}
use Rattle.byte_nfa.proofs.nfa.Nfa.ends.Goals as goal
use Rattle.byte_nfa.proofs.nfa.Nfa.ends.Goals.{in-Some-follow_epsilons, in_default-follow_epsilons}

pub loop-s-preserved : goal.loop-s-preserved
loop-s-preserved c =
    let inv = c.loop-s.invariant in
    let (below, at, between) = c.in-Some.ensures.found in
    let s = c.in-Some.s in
    let st = state c.args.self.now.states s in
    let left = c.follow_epsilons.ensures in
    let old = has_index c.loop-s.into in
    let next = c.match-follow_epsilons in
    elim next.branch [
      | in-Some-follow_epsilons w ↦ rw (w.limit-is, w.into-is) record {
        within = omega (arith, below, inv.within);
        from_capacity = left.room ∙ inv.from_capacity;
        into_capacity = w.put.ensures.room ∙ inv.into_capacity;
        holds = λ k. iff_trans (inv.holds k) (read_taken c.args.self.now.states s c.loop-s.limit k [] (has_state c.loop-s.from) (λ _. false) old (has_state c.follow_epsilons.new.from) (λ _. false) (has_index w.put.new.self)
            below between at left.below left.from (λ t. stays_at_end st s t)
            (λ t. w.put.ensures.has t ∙ names_it st w.in-Some-follow_epsilons.index t (old t) w.in-Some-follow_epsilons.ensures.end.0));
      }
      | in_default-follow_epsilons w ↦ rw (w.limit-is, w.into-is) record {
        within = omega (arith, below, inv.within);
        from_capacity = left.room ∙ inv.from_capacity;
        into_capacity = inv.into_capacity;
        holds = λ k. iff_trans (inv.holds k) (read_taken c.args.self.now.states s c.loop-s.limit k [] (has_state c.loop-s.from) (λ _. false) old (has_state c.follow_epsilons.new.from) (λ _. false) old
            below between at left.below left.from (λ t. stays_at_end st s t)
            (λ t. names_none st t (old t) (w.in_default-follow_epsilons.ensures.end t)));
      }
    ]
