use Rattle.std.proofs.Common.{◌≡◌, ◌∷◌, ◌++◌, sym}
use Rattle.bit_sets.proofs.lemmas.Texts.{all_bytes}
use Rattle.byte_nfa.specs.Runs.{AcceptsFrom}
use Rattle.byte_nfa.specs.Steps.{IsReached}
use Rattle.byte_nfa.proofs.lemmas.Pass.{iff_trans}
use Rattle.byte_nfa.specs.EarlyMatches.{half}
use Rattle.byte_nfa.proofs.lemmas.Finding.{finds_same}
use Rattle.byte_nfa.proofs.lemmas.After.{some_after}
use Rattle.byte_nfa.proofs.lemmas.Running.{after_for}
use Rattle.byte_nfa.proofs.simulation.Simulation.can_match_after.Goals as goal

pub returns-clause-some : goal.returns-clause-some
returns-clause-some c =
    let m = c.self.inside.automaton in
    let source = c.self.inside.source.value in
    let runs = c.self.invariant.runs in
    let text = c.args.text.now in
    let bytes = all_bytes text (λ j. (c.type_inv.text j).fits) in
    let is : source ≡ c.args.self.now.nfa = cc in
    let begins = c.start.ensures.starts in
    rw (sym is) (iff_trans c.can_match_after.ensures.some
    (iff_trans (some_after (λ y k. finds_same (half m) (AcceptsFrom m c.start.new.into) (IsReached m) begins (text ++ c.args.byte ∷ y) k))
    (after_for source m runs text c.args.byte bytes c.ranges.byte.fits)))
