use Rattle.std.proofs.Common.{◌≡◌, ◌∙◌, ◌<◌, true≢false, length, refl, sym, arith}
use Rattle.lazy_dfa.specs.inner.Rows.{states_of}
use Rattle.byte_nfa.proofs.lemmas.After.{some_live, none_live}
use Rattle.lazy_dfa.proofs.rows.Rows.is_live.Goals as goal

pub returns-then-has-clause-some : goal.returns-then-has-clause-some
returns-then-has-clause-some c = λ i at.
    let d = c.args.dfa.now in
    let m = d.run in
    let rows = c.args.self.now in
    let row : c.row_at.result ≡ i = c.row_at.ensures i at.1 in
    let same : c.states_at-state-items.result.now ≡ states_of rows i = rw (c.deref.ensures.value, c.deref-2.ensures.value, row) at c.states_at-state-items.ensures in
    let below = (c.requires.sound.lists i at.0).below in
    let n = c.loop-state.state-index in
    let lt : n < length (states_of rows i) = rw same at c.loop-state-test.true in
    let has = rw same at (sym c.has.ensures.has ∙ c.if-has.true) in
    (λ _. some_live m c.live_states-live.result.now c.live_states-live.ensures.live (states_of rows i) below n lt has, λ _. refl)

pub returns-clause-some : goal.returns-clause-some
returns-clause-some c = λ i at.
    let d = c.args.dfa.now in
    let m = d.run in
    let rows = c.args.self.now in
    let row : c.row_at.result ≡ i = c.row_at.ensures i at.1 in
    let same : c.states_at-state-items.result.now ≡ states_of rows i = rw (c.deref.ensures.value, c.deref-2.ensures.value, row) at c.states_at-state-items.ensures in
    let below = (c.requires.sound.lists i at.0).below in
    let none = rw same at c.loop-state.invariant.none in
    let past = rw same at c.loop-state-test.false in (
      λ off. absurd (true≢false (sym off)),
      λ some. absurd (none_live m c.live_states-live.result.now c.live_states-live.ensures.live (states_of rows i) below (λ n lt. none n (omega (arith, lt, past))) some),
    )
