use Rattle.std.proofs.Common.{[], ap, sym, refl, arith}
use Rattle.std.proofs.lemmas.List.{append-nil}
use Rattle.byte_nfa.specs.Steps.{NfaValue, match_state}
use Rattle.byte_nfa.specs.declared.state.State.TheVariants.{Match}
use Rattle.byte_nfa.proofs.lemmas.Pushing.{sound_push, pushes_with}
use Rattle.byte_nfa.proofs.builder.Builder.push_match.Goals as goal

pub invariant_of-self-2 : goal.invariant_of-self-2
invariant_of-self-2 c =
    rw c.in_ok-push.ensures.items (sound_push c.self.inside.sets.sets.items c.self.inside.targets.items c.self.inside.states.items (Match c.args.index) c.self.inside.starts.items c.self.inside.index_count c.self.invariant
    tt tt (omega (arith, c.requires, ap (λ (m : NfaValue). m.index_count) c.self.view_is)))

pub returns-clause-pushed : goal.returns-clause-pushed
returns-clause-pushed c =
    let inside = c.self.inside in
    let sets = inside.sets.sets.items in
    let targets = inside.targets.items in
    rw c.in_ok-push.ensures.items (pushes_with c.args.self.now sets sets [] targets targets [] (sym (append-nil sets)) (sym (append-nil targets))
    inside.states.items inside.starts.items inside.index_count c.self.view_is c.self.invariant
    (Match c.args.index) (match_state c.args.index) refl
    c.len-at.result (omega (arith, c.len-at.ensures, inside.states.ok.0)))
