use Rattle.std.proofs.Common.{◌≡◌, true, false, sym, ◌∙◌, subst}
use Rattle.std.proofs.lemmas.Result.{IfOk-weaker}
use Rattle.ignore_pattern.specs.Elements.{Folders, element_matches, elements_match}
use Rattle.ignore_pattern.specs.Patterns.{pattern_matches}
use Rattle.byte_nfa.specs.Leading.{Builds}
use Rattle.ignore_pattern.proofs.lemmas.Automata.{whole_built, last_built}
use Rattle.ignore_pattern.proofs.automaton.push_matching.Goals as goal

pub returns-then-is_whole-clause-builds : goal.returns-then-is_whole-clause-builds
returns-then-is_whole-clause-builds c =
    let p = c.args.pattern.now in
    let whole : p.whole ≡ true = sym c.is_whole.ensures.value ∙ c.if-is_whole.true in
    whole_built c.args.ignore_case p c.args.builder.now.states c.push_elements.new.builder.states c.in_ok-start.start c.args.exit whole
    (subst (λ es. Builds (elements_match c.args.ignore_case es) c.args.builder.now.states c.push_elements.new.builder.states c.in_ok-start.start c.args.exit) c.elements.ensures c.in_ok-start.ensures.builds)

pub returns-else-is_whole-clause-builds : goal.returns-else-is_whole-clause-builds
returns-else-is_whole-clause-builds c =
    let p = c.args.pattern.now in
    let old = c.args.builder.now in
    let later = c.push_elements.new.builder in
    let new = c.push_up_to.new.self in
    let start = c.in_ok-start.start in
    let not_whole : p.whole ≡ false = sym c.is_whole.ensures.value ∙ c.if-is_whole.false in
    IfOk-weaker c.push_up_to.result (λ s. Builds (element_matches false Folders) later.states new.states s start)
    (λ s. Builds (pattern_matches c.args.ignore_case p) old.states new.states s c.args.exit)
    (λ s built. last_built c.args.ignore_case p old later new s start c.args.exit not_whole (rw not_whole at c.is_whole.ensures.inside) c.push_elements.ensures.grows
    (subst (λ es. Builds (elements_match c.args.ignore_case es) old.states later.states start c.args.exit) c.elements.ensures c.in_ok-start.ensures.builds)
    c.push_up_to.ensures.grows built)
    c.push_up_to.ensures.builds
