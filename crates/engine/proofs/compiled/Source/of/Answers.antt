use Rattle.std.proofs.Common.{subst, sym}
use Rattle.byte_nfa.specs.Steps.{NfaValue}
use Rattle.engine.specs.inner.Source.{IsSource}
use Rattle.engine.proofs.compiled.Source.of.Goals as goal

pub invariant_of-result : goal.invariant_of-result
invariant_of-result c = subst (λ (m : NfaValue). IsSource m c.state_count.result c.in_ok-last_bytes.field-0) (sym c.of.ensures) (record {
  states = c.state_count.ensures;
  last = c.in_ok-last_bytes.ensures;
})
