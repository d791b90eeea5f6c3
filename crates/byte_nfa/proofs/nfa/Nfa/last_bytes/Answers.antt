use Rattle.std.proofs.Common.{refl, arith}
use Rattle.bit_sets.specs.StateSets.{has_state}
use Rattle.byte_nfa.proofs.lemmas.LastBytes.{last_byte}
use Rattle.byte_nfa.proofs.lemmas.Pass.{accepts_within}
use Rattle.byte_nfa.proofs.nfa.Nfa.last_bytes.Goals as goal

pub returns : goal.returns
returns c = λ y b k (s, begins, h).
    let a = c.args.self.now.states in
    last_byte a (has_state c.accepting.new.into) c.loop-s.bytes (λ t j e. (c.accepting.ensures.accepting t (accepts_within a j t _ e)).1 (j, e))
    (λ u d t lt go at. c.loop-s.invariant u d t (omega (arith, lt)) go at) k s b _ y refl h
