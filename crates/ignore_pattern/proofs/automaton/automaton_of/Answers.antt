use Rattle.std.proofs.Common.{◌≡◌, ◌+◌, [], ◌∷◌, ◌++◌, length, take, true, false, ap, sym, ◌∙◌, subst, arith}
use Rattle.std.proofs.lemmas.List.{take_more, take_all, length-take-le}
use Rattle.ignore_pattern.specs.Automata.{above_index}
use Rattle.ignore_pattern.specs.inner.States.{HasBelow, IsFor}
use Rattle.ignore_pattern.proofs.lemmas.Automata.{is_automaton, is_for_none}
use Rattle.ignore_pattern.proofs.lemmas.Below.{exit_below, has_below, keeps_below}
use Rattle.ignore_pattern.proofs.automaton.automaton_of.Goals as goal
use Rattle.ignore_pattern.proofs.automaton.automaton_of.Goals.{Joined-is_negated, then-is_negated, else-is_negated}

pub loop-index-init : goal.loop-index-init
loop-index-init c =
    let n = length c.args.patterns.now in
    let first = c.push_below.new.builder in
    let second = c.push_below-2.new.builder in
    record {
      is_for = is_for_none c.args.ignore_case n second (c.push_below-2.ensures.grows.starts ∙ c.push_below.ensures.grows.starts ∙ c.new-builder.ensures.starts);
      below = keeps_below first second c.in_ok-below.below n c.push_below-2.ensures.grows (has_below c.new-builder.result first c.in_ok-below.below n c.in_ok-below.ensures.builds c.in_ok-below.ensures.within);
      below_negated = has_below first second c.in_ok-below_negated.below_negated (n + 1) c.in_ok-below_negated.ensures.builds c.in_ok-below_negated.ensures.within;
      count = c.push_below-2.ensures.grows.index_count ∙ c.push_below.ensures.grows.index_count ∙ c.new-builder.ensures.index_count;
    }

exit : (c : Joined-is_negated) → HasBelow c.loop-index.builder c.if-is_negated.exit (above_index (length c.args.patterns.now) c.index-patterns-index.result.negated)
exit c =
    let n = length c.args.patterns.now in
    let m = c.loop-index.builder in
    let negated = c.index-patterns-index.result.negated in
    elim c.if-is_negated.branch [
      | then-is_negated w ↦ exit_below m c.if-is_negated.exit c.in_ok-below_negated.below_negated n negated true w.exit-is (sym c.is_negated.ensures ∙ w.if-is_negated.true) c.loop-index.invariant.below_negated
      | else-is_negated w ↦ exit_below m c.if-is_negated.exit c.in_ok-below.below n negated false w.exit-is (sym c.is_negated.ensures ∙ w.if-is_negated.false) c.loop-index.invariant.below
    ]

pub loop-index-preserved : goal.loop-index-preserved
loop-index-preserved c =
    let inv = c.loop-index.invariant in
    let ps = c.args.patterns.now in
    let n = length ps in
    let i = c.loop-index.index in
    let p = c.index-patterns-index.result in
    let more : take (i + 1) ps ≡ take i ps ++ p ∷ [] = take_more ps i p c.loop-index-test.true ∙ ap (λ x. take i ps ++ x ∷ []) (sym c.index-patterns-index.is) in
    let count : length (take i ps) ≡ i = length-take-le i ps (omega arith) in
    record {
      is_for = rw more (c.in_ok-push_pattern.ensures.patterns (take i ps) n count (exit (goal.at.loop-index-preserved c).Joined-is_negated) inv.is_for);
      below = c.in_ok-push_pattern.ensures.keeps c.in_ok-below.below n inv.below;
      below_negated = c.in_ok-push_pattern.ensures.keeps c.in_ok-below_negated.below_negated (n + 1) inv.below_negated;
      count = c.push_pattern.ensures.index_count ∙ inv.count;
    }

pub returns : goal.returns
returns c =
    let inv = c.loop-index.invariant in
    let ps = c.args.patterns.now in
    let all : take c.loop-index.index ps ≡ ps = take_all c.loop-index.index ps (omega arith) in
    rw c.finish.ensures (is_automaton c.args.ignore_case ps c.loop-index.builder inv.count (subst (λ l. IsFor c.args.ignore_case l (length ps) c.loop-index.builder) all inv.is_for))
