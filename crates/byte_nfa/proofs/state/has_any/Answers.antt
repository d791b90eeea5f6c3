use Rattle.std.proofs.Common.{slice_index, true≢false, refl, sym, ap, ◌∙◌, arith}
use Rattle.bit_sets.specs.StateSets.{has_state}
use Rattle.byte_nfa.proofs.lemmas.Accepting.{listed_at, listed_place}
use Rattle.byte_nfa.proofs.state.has_any.Goals as goal

pub returns-then-is_in : goal.returns-then-is_in
returns-then-is_in c =
    let states = c.args.states.now in
    let i = c.loop-state.state-index in
    (λ _. (slice_index states i, listed_at states i c.loop-state-test.true, sym c.is_in.ensures ∙ c.if-is_in.true), λ _. refl)

pub returns : goal.returns
returns c = (
  λ h. absurd (true≢false (sym h)),
  λ (t, listed, at).
      let (j, lt, is) = listed_place t c.args.states.now listed in
      absurd (true≢false (sym at ∙ ap (has_state c.args.set.now) is ∙ c.loop-state.invariant j (omega arith))),
)
