use Rattle.std.proofs.Common.{◌≡◌, ap, arith, ◌∙◌}
use Rattle.std.proofs.lemmas.List.{nil_from_length}
use Rattle.byte_nfa.specs.Reading.{is_read}
use Rattle.byte_nfa.specs.Steps.{union_state, state}
use Rattle.engine.proofs.lemmas.Lists.{union_taken, state_kept, none_waits}
use Rattle.engine.proofs.sharing.expanded.Goals as goal

pub loop-s-preserved-in-Continue-branch-2 : goal.loop-s-preserved-in-Continue-branch-2
loop-s-preserved-in-Continue-branch-2 c =
    let a = c.args.automaton.now.states in
    let l = c.loop-s in
    let rest = c.pop.new.self.items in
    let us = c.in-Union.targets.now in
    let is : state a c.in-Some.s ≡ union_state us = c.in-Some-state.ensures.read ∙ ap is_read c.in-Union.is in
    record {
      left = omega (arith, l.invariant.left, c.spend.ensures.less, c.spend-in-Union.ensures.less);
      same = union_taken a c.args.list.now l.states.items l.waiting.items rest c.in-Some.s c.in-Some.ensures.items l.invariant.same
          us c.extend_from_slice.new.self.items is c.in_ok-extend_from_slice-in-Union.ensures.items;
    }

pub loop-s-preserved : goal.loop-s-preserved
loop-s-preserved c =
    let l = c.loop-s in
    record {
      left = omega (arith, l.invariant.left, c.spend.ensures.less);
      same = state_kept c.args.automaton.now.states c.args.list.now l.states.items l.waiting.items c.pop.new.self.items c.in-Some.s c.in-Some.ensures.items l.invariant.same
          c.push.new.self.items c.in_ok-push-in_default-state-2.ensures.items;
    }

pub returns-clause-alike : goal.returns-clause-alike
returns-clause-alike c =
    let l = c.loop-s in
    none_waits c.args.automaton.now.states c.args.list.now l.states.items l.waiting.items
    (nil_from_length l.waiting.items (omega (arith, c.in_default.ensures.cases.0, l.waiting.ok.0))) l.invariant.same
