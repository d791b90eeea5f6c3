use Rattle.std.proofs.Common.{sym, ◌∙◌, arith}
use Rattle.git_ignore.proofs.lemmas.Stacks.{file_decides, file_undecided}
use Rattle.git_ignore.proofs.lemmas.TwoRules.{none_if_not_some}
use Rattle.git_ignore.proofs.folder_rules.VecFolderRulesDecidesAlone.rule_alone.Goals as goal

pub returns-then-is_some-clause-rule : goal.returns-then-is_some-clause-rule
returns-then-is_some-clause-rule c =
    let l = c.loop-count in
    file_decides c.args.self.now.items l.count c.index.result.now c.args.path.now c.args.is_folder c.path_rule-rule.result.rule _ c.loop-count-test.true l.invariant.within
    c.index.ensures c.path_rule-rule.ensures.rule.rule (sym c.is_some.ensures ∙ c.if-is_some.true) l.invariant.later

pub loop-count-preserved : goal.loop-count-preserved
loop-count-preserved c =
    let l = c.loop-count in
    record {
      within = omega (arith, l.invariant.within);
      scratch = c.path_rule-rule.ensures.scratch ∙ l.invariant.scratch;
      later = file_undecided c.args.self.now.items l.count c.index.result.now c.args.path.now c.args.is_folder c.path_rule-rule.result.rule _ c.loop-count-test.true l.invariant.within
          c.index.ensures c.path_rule-rule.ensures.rule.rule (none_if_not_some c.path_rule-rule.result.rule (sym c.is_some.ensures ∙ c.if-is_some.false)) l.invariant.later;
    }
