use Rattle.std.proofs.Common.{◌+◌, ◌<◌, [], false, ◌∙◌, arith}
use Rattle.std.proofs.Math.Logic.{⊎_elim}
use Rattle.bit_sets.specs.Indexes.{has_index}
use Rattle.bit_sets.specs.StateSets.{has_state}
use Rattle.byte_nfa.proofs.lemmas.Pass.{iff_trans}
use Rattle.byte_nfa.proofs.lemmas.Stepping.{step_done, none_below, counted_then}
use Rattle.byte_nfa.proofs.lemmas.Told.{told_more, told_all}
use Rattle.byte_nfa.specs.EarlyMatches.{half}
use Rattle.byte_nfa.specs.inner.Stepping.{EndsBelow}
use Rattle.byte_nfa.proofs.stepping.step.Goals as goal

pub loop-index-preserved : goal.loop-index-preserved
loop-index-preserved c =
    let m = c.args.automaton.now in
    let inv = c.loop-index.invariant in
    let passed = c.next_end.ensures in
    let i = c.in-Some.index in
    let (source, early) = c.requires.early in
    let (lt, from, small) = rw c.in-Some.is at passed.end in
    let below : i < half m + half m = omega (arith, small, early.index_count) in
    let told = rw c.index_count-half.ensures at c.told_by.ensures in
    record {
      within = omega (arith, lt, inv.within);
      from_capacity = passed.from_capacity ∙ inv.from_capacity;
      to_capacity = passed.to_capacity ∙ inv.to_capacity;
      room = c.put.ensures.room ∙ inv.room;
      steps = λ b y k is. iff_trans (inv.steps b y k is) (passed.steps b y k is);
      told = λ k. iff_trans (inv.told k) (told_more (half m) (EndsBelow m c.loop-index.from c.loop-index.limit) c.args.lowest k (has_index c.loop-index.found k)
          (EndsBelow m c.next_end.new.from c.next_end.new.limit) i c.told_by.result (has_index c.put.new.self k) (rw c.in-Some.is at passed.ends) from below told (c.put.ensures.has k));
      visits = omega (arith, inv.visits, passed.visits);
      counted = counted_then (λ _. false) (has_state c.loop-index.to) (has_state c.next_end.new.to) _ _ _ inv.counted passed.counted;
    }

pub returns-clause-steps : goal.returns-clause-steps
returns-clause-steps c = λ b y k is.
    let passed = c.next_end.ensures in
    let past = rw c.in_default.is at passed.end in
    iff_trans (c.loop-index.invariant.steps b y k is) (iff_trans (passed.steps b y k is) (step_done c.args.automaton.now c.next_end.new.from c.next_end.new.to c.next_end.new.limit b y k past))

pub returns-clause-told : goal.returns-clause-told
returns-clause-told c = λ k.
    let m = c.args.automaton.now in
    let passed = c.next_end.ensures in
    let past = rw c.in_default.is at passed.end in
    told_all (half m) (EndsBelow m c.loop-index.from c.loop-index.limit) c.args.lowest k (has_index c.loop-index.found k)
    (λ j le lt h. ⊎_elim {C = ⊥} (λ low. none_below m.states (has_state c.next_end.new.from) c.next_end.new.limit [] j past low) (λ is. absurd cc) ((passed.ends j le).0 h))
    (c.loop-index.invariant.told k)

pub returns-clause-counted : goal.returns-clause-counted
returns-clause-counted c = counted_then (λ _. false) (has_state c.loop-index.to) (has_state c.next_end.new.to) _ _ _ c.loop-index.invariant.counted c.next_end.ensures.counted
