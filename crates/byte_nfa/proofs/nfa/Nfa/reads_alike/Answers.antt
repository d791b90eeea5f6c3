use Rattle.std.proofs.Common.{◌≡◌, ℕ, ◌<◌, length, subst, arith}
use Rattle.bit_sets.specs.Bytes.{has_byte, set_at}
use Rattle.byte_nfa.specs.Equivalent.{AreEquivalent}
use Rattle.byte_nfa.specs.Steps.{NfaValue}
use Rattle.byte_nfa.proofs.lemmas.Equivalent.{alike_states}
use Rattle.byte_nfa.proofs.nfa.Nfa.reads_alike.Goals as goal

pub returns : goal.returns
returns c = λ _.
    let inside = c.self.inside in
    let alike : (n : ℕ) → n < length inside.sets.items → has_byte (set_at inside.sets.items n) c.args.first ≡ has_byte (set_at inside.sets.items n) c.args.second =
    subst (λ sets. (n : ℕ) → n < length sets → has_byte (set_at sets n) c.args.first ≡ has_byte (set_at sets n) c.args.second) c.deref-set-items.ensures.value (λ n lt. c.loop-set.invariant n (omega (arith, lt, c.loop-set-test.false))) in
    subst (λ (m : NfaValue). AreEquivalent m.states c.args.first c.args.second) c.self.view_is (alike_states inside.sets.items inside.targets.items c.args.first c.args.second alike inside.states.items c.self.invariant.held)
