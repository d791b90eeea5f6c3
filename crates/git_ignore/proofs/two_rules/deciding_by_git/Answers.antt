use Rattle.std.proofs.Common.{◌≡◌, take, true, ap, sym, ◌∙◌}
use Rattle.std.proofs.lemmas.List.{take_all}
use Rattle.git_ignore.specs.TwoRules.{ignored_above, ignoring}
use Rattle.git_ignore.proofs.lemmas.PathRules.{none_first, not_so}
use Rattle.git_ignore.proofs.lemmas.TwoRules.{met_ignored, none_if_not_some, not_ignored, passed_byte}
use Rattle.git_ignore.proofs.two_rules.deciding_by_git.Goals as goal

pub returns-then-is_some-clause-rule : goal.returns-then-is_some-clause-rule
returns-then-is_some-clause-rule g c =
    met_ignored (g.R.DecidesAlone.alone c.args.rules.now) c.args.path.now c.args.is_folder c.loop-end.end c.ignoring-rule.result c.loop-end-test.true c.loop-end.invariant.above
    (c.ignoring-rule.ensures ∙ ap ignoring c.folder_rule.ensures.rule) (sym c.is_some.ensures ∙ c.if-is_some.true)

pub loop-end-preserved : goal.loop-end-preserved
loop-end-preserved g c = record {
  scratch = c.folder_rule.ensures.scratch ∙ c.loop-end.invariant.scratch;
  above = passed_byte (g.R.DecidesAlone.alone c.args.rules.now) c.args.path.now c.loop-end.end c.loop-end-test.true c.loop-end.invariant.above
      (sym (c.ignoring-rule.ensures ∙ ap ignoring c.folder_rule.ensures.rule) ∙ none_if_not_some c.ignoring-rule.result (sym c.is_some.ensures ∙ c.if-is_some.false));
}

pub returns-then-not-told-clause-rule : goal.returns-then-not-told-clause-rule
returns-then-not-told-clause-rule g c =
    let alone = g.R.DecidesAlone.alone c.args.rules.now in
    let told = c.path_rule-told.ensures.rule in
    told.rule ∙ not_ignored alone c.args.path.now c.args.is_folder (none_first (λ folder. ignoring (alone folder true)) c.args.path.now (told.not_ignored (not_so c.path_rule-told.result.may_be_ignored c.if-not-told.true)))

pub returns-clause-rule : goal.returns-clause-rule
returns-clause-rule g c =
    let whole : take c.loop-end.end c.args.path.now ≡ c.args.path.now = take_all c.loop-end.end c.args.path.now c.loop-end-test.false in
    c.path_rule-told.ensures.rule.rule
    ∙ not_ignored (g.R.DecidesAlone.alone c.args.rules.now) c.args.path.now c.args.is_folder (ap (ignored_above (g.R.DecidesAlone.alone c.args.rules.now)) (sym whole) ∙ c.loop-end.invariant.above)
