use Rattle.std.proofs.Common.{ℕ, ◌≤◌, sym, subst}
use Rattle.byte_nfa.specs.Runs.{size}
use Rattle.bit_sets.specs.StateSets.{state_capacity}
use Rattle.set_matcher.proofs.automata.has_text.Goals as goal

pub returns : goal.returns
returns c =
    let reached = c.start.ensures.starts in (
      λ yes. let (y, k, bytes, accepts) = c.has_live.ensures.some.0 yes in (k, y, bytes, (reached y k).0 accepts),
      λ (k, y, bytes, at). c.has_live.ensures.some.1 (y, k, bytes, (reached y k).1 at),
    )

pub start-requires : goal.start-requires
start-requires c = subst (λ (n : ℕ). n ≤ state_capacity c.in_ok-starts.starts) c.state_count.ensures c.in_ok-starts.ensures.room

pub live-requires : goal.live-requires
live-requires c = subst (λ (n : ℕ). n ≤ state_capacity c.in_ok-live.live) c.state_count-2.ensures c.in_ok-live.ensures.room

pub has_live-requires-clause-from_capacity : goal.has_live-requires-clause-from_capacity
has_live-requires-clause-from_capacity c =
    subst (λ (n : ℕ). size c.args.automaton.now ≤ n) (sym c.start.ensures.room)
    (subst (λ (n : ℕ). n ≤ state_capacity c.in_ok-starts.starts) c.state_count.ensures c.in_ok-starts.ensures.room)

pub has_live-requires-clause-live_capacity : goal.has_live-requires-clause-live_capacity
has_live-requires-clause-live_capacity c =
    subst (λ (n : ℕ). size c.args.automaton.now ≤ n) (sym c.live.ensures.room)
    (subst (λ (n : ℕ). n ≤ state_capacity c.in_ok-live.live) c.state_count-2.ensures c.in_ok-live.ensures.room)

pub has_live-requires-clause-live : goal.has_live-requires-clause-live
has_live-requires-clause-live c = c.live.ensures.live
