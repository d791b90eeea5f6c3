use Rattle.std.proofs.Common.{◌≡◌, ℕ, ◌+◌, ◌*◌, [], ◌∷◌, ◌++◌, length, arith, ap, sym, subst, ◌∙◌}
use Rattle.std.proofs.lemmas.List.{length-map}
use Rattle.byte_nfa.specs.Steps.{NfaValue, state}
use Rattle.byte_nfa.specs.Runs.{size}
use Rattle.bit_sets.specs.Numbers.{AreBelow}
use Rattle.byte_nfa.specs.inner.Views.{of_state, NamesBelow, nfa}
use Rattle.byte_nfa.proofs.lemmas.EarlyMatches.{AreEarlyMatches, decided_more, tell_decisions, same_more, all_decisions}
use Rattle.byte_nfa.proofs.nfa.Nfa.with_early_matches.Goals as goal
use Rattle.byte_nfa.proofs.nfa.Nfa.with_early_matches.Goals.{in-Some-early_match, in-None}

pub from_parts-requires : goal.from_parts-requires
from_parts-requires c =
    let inside = c.self.inside in
    let inv = c.loop-s.invariant in
    let same_sets : c.in_ok-sets.sets.items ≡ inside.sets.items = c.in_ok-sets.ensures.items ∙ c.deref-2.ensures.value in
    let same_targets : c.in_ok-targets.targets.items ≡ inside.targets.items = c.in_ok-targets.ensures.items ∙ c.deref-3.ensures.value in
    let same_starts : c.in_ok-starts.starts.items ≡ inside.starts.items = c.in_ok-starts.ensures.items ∙ c.deref-4.ensures.value in
    let count : c.in-Some.index_count ≡ c.args.self.now.index_count * 2 = c.in-Some.ensures.1 ∙ ap (λ (m : NfaValue). m.index_count * 2) c.self.view_is in
    let begun : AreBelow (length c.loop-s.states.items) inside.starts.items = λ i lt. let below = c.self.invariant.begun i lt in omega (arith, inv.len) in
    rw (same_sets, same_targets, same_starts, count) record {
      held = inv.sound.held;
      down = inv.sound.down;
      named = inv.sound.named;
      begun = begun;
    }

pub loop-s-preserved : goal.loop-s-preserved
loop-s-preserved c =
    let inside = c.self.inside in
    let inv = c.loop-s.invariant in
    let m = c.args.self.now in
    let sets = inside.sets.items in
    let targets = inside.targets.items in
    let so_far : AreEarlyMatches m sets targets c.loop-s.states.items c.loop-s.s = record { len = inv.len; sound = inv.sound; states = inv.states } in
    let more : AreEarlyMatches m sets targets (c.loop-s.states.items ++ c.match-early_match.state ∷ []) (c.loop-s.s + 1) =
    elim c.match-early_match.branch [
      | in-Some-early_match w ↦ rw w.state-is (decided_more m sets targets inside.states.items inside.starts.items inside.index_count c.self.view_is c.self.invariant
          c.loop-s.states.items c.loop-s.s so_far w.in-Some-early_match.index w.in-Some-early_match.ensures.0 w.in-Some-early_match.ensures.1)
      | in-None w ↦ rw w.state-is (same_more m sets targets inside.states.items inside.starts.items inside.index_count c.self.view_is c.self.invariant
          c.loop-s.states.items c.loop-s.s so_far w.index.result.now (omega arith) w.index.ensures w.in-None.ensures)
    ] in
    rw c.in_ok-push.ensures.items record { len = more.len; sound = more.sound; states = more.states }

pub returns : goal.returns
returns c =
    let inside = c.self.inside in
    let inv = c.loop-s.invariant in
    let m = c.args.self.now in
    let same_sets : c.in_ok-sets.sets.items ≡ inside.sets.items = c.in_ok-sets.ensures.items ∙ c.deref-2.ensures.value in
    let same_targets : c.in_ok-targets.targets.items ≡ inside.targets.items = c.in_ok-targets.ensures.items ∙ c.deref-3.ensures.value in
    let same_starts : c.in_ok-starts.starts.items ≡ inside.starts.items = c.in_ok-starts.ensures.items ∙ c.deref-4.ensures.value in
    let count : c.in-Some.index_count ≡ m.index_count * 2 = c.in-Some.ensures.1 ∙ ap (λ (o : NfaValue). o.index_count * 2) c.self.view_is in
    let value : nfa inside.sets.items inside.targets.items c.loop-s.states.items inside.starts.items (m.index_count * 2) ≡ c.from_parts.result =
    rw (sym same_sets, sym same_targets, sym same_starts, sym count) (sym c.from_parts.ensures) in
    let len : length c.loop-s.states.items ≡ length m.states = omega (arith, inv.len, ap size c.self.view_is, length-map inside.states.items (of_state inside.sets.items inside.targets.items)) in
    all_decisions m c.from_parts.result inside.sets.items inside.targets.items c.loop-s.states.items inside.starts.items value
    (ap (λ (o : NfaValue). o.starts) c.self.view_is) len (λ s lt. inv.states s (omega (arith, inv.len)))
    (subst (λ (o : NfaValue). (s : ℕ) → NamesBelow o.index_count (state o.states s)) c.self.view_is c.self.invariant.named)

pub early_match-requires : goal.early_match-requires
early_match-requires c =
    let inside = c.self.inside in
    let inv = c.loop-s.invariant in
    let m = c.args.self.now in
    let sets = inside.sets.items in
    let targets = inside.targets.items in
    let so_far : AreEarlyMatches m sets targets c.loop-s.states.items c.loop-s.s = record { len = inv.len; sound = inv.sound; states = inv.states } in
    rw c.deref.ensures.value record {
      exists = omega (arith, c.loop-s-test.true, c.len-s-end.ensures, inside.states.ok.0, ap size c.self.view_is, length-map inside.states.items (of_state sets targets));
      len = omega (arith, inv.len);
      below = tell_decisions m sets targets inside.states.items inside.starts.items inside.index_count c.self.view_is c.self.invariant c.loop-s.states.items c.loop-s.s so_far;
    }
