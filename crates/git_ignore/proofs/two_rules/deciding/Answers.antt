use Rattle.std.proofs.Common.{◌∙◌, sym}
use Rattle.git_ignore.specs.TwoRules.{deciding}
use Rattle.git_ignore.proofs.lemmas.TwoRules.{itself_alone}
use Rattle.git_ignore.proofs.two_rules.deciding.Goals as goal

pub returns-in-PathAlone-clause-rule : goal.returns-in-PathAlone-clause-rule
returns-in-PathAlone-clause-rule g c =
    c.rule_alone.ensures.rule
    ∙ itself_alone (g.R.DecidesAlone.alone c.args.rules.now) c.args.path.now c.args.is_folder
    ∙ (λ i. deciding (sym c.in-PathAlone.is i) (g.R.DecidesAlone.alone c.args.rules.now) c.args.path.now c.args.is_folder)
