use Rattle.std.proofs.Common.{◌≡◌, ◌+◌, ◌-◌, take, true, ap, sym, ◌∙◌, arith}
use Rattle.std.proofs.lemmas.Bool.{false≢true}
use Rattle.std.proofs.Math.Seq.{take-length}
use Rattle.git_ignore.proofs.lemmas.PathRules.{none_last}
use Rattle.git_ignore.proofs.lemmas.TwoRules.{folder_decides, folder_undecided, nearest_above, nearest_itself, none_if_not_some, rule_above}
use Rattle.git_ignore.proofs.two_rules.nearest.Goals as goal
use Rattle.git_ignore.proofs.two_rules.nearest.Goals.{else-told, then-told}

pub returns-then-is_some-clause-rule : goal.returns-then-is_some-clause-rule
returns-then-is_some-clause-rule g c =
    nearest_itself (g.R.DecidesAlone.alone c.args.rules.now) c.args.path.now c.args.is_folder _ c.path_rule-told.ensures.rule.rule
    (sym c.is_some.ensures ∙ c.if-is_some.true)

pub returns-then-not-told-clause-rule : goal.returns-then-not-told-clause-rule
returns-then-not-told-clause-rule g c =
    let alone = g.R.DecidesAlone.alone c.args.rules.now in
    let told = c.path_rule-told.ensures.rule in
    sym (none_last (λ folder. alone folder true) c.args.path.now (told.undecided (elim c.if-told.branch [ then-told w ↦ absurd (false≢true (sym c.if-not-told.true ∙ w.value-is ∙ w.if-told.true)) | else-told w ↦ rw w.if-told.false (sym w.value-is ∙ c.if-not-told.true) ])))
    ∙ nearest_above alone c.args.path.now c.args.is_folder _ told.rule (none_if_not_some c.path_rule-told.result.rule (sym c.is_some.ensures ∙ c.if-is_some.false))

pub loop-end-init : goal.loop-end-init
loop-end-init g c = record {
  scratch = c.path_rule-told.ensures.scratch;
  rest = ap (rule_above (g.R.DecidesAlone.alone c.args.rules.now)) (take-length c.args.path.now)
      ∙ nearest_above (g.R.DecidesAlone.alone c.args.rules.now) c.args.path.now c.args.is_folder _ c.path_rule-told.ensures.rule.rule
      (none_if_not_some c.path_rule-told.result.rule (sym c.is_some.ensures ∙ c.if-is_some.false));
}

pub returns-then-is_some-2-clause-rule : goal.returns-then-is_some-2-clause-rule
returns-then-is_some-2-clause-rule g c =
    let l = c.loop-end in
    let same : l.end ≡ (l.end - 1) + 1 = omega (arith, c.loop-end-test.true) in
    folder_decides (g.R.DecidesAlone.alone c.args.rules.now) c.args.path.now (l.end - 1) c.folder_rule-rule.result _ (omega (arith, c.loop-end-test.true, l.auto.end)) c.folder_rule-rule.ensures.rule
    (sym c.is_some-in-loop-end.ensures ∙ c.if-is_some-2.true)
    (ap (λ (k : _). rule_above (g.R.DecidesAlone.alone c.args.rules.now) (take k c.args.path.now)) (sym same) ∙ l.invariant.rest)

pub loop-end-preserved : goal.loop-end-preserved
loop-end-preserved g c =
    let l = c.loop-end in
    let same : l.end ≡ (l.end - 1) + 1 = omega (arith, c.loop-end-test.true) in
    record {
      scratch = c.folder_rule-rule.ensures.scratch ∙ l.invariant.scratch;
      rest = folder_undecided (g.R.DecidesAlone.alone c.args.rules.now) c.args.path.now (l.end - 1) c.folder_rule-rule.result _ (omega (arith, c.loop-end-test.true, l.auto.end)) c.folder_rule-rule.ensures.rule
          (none_if_not_some c.folder_rule-rule.result (sym c.is_some-in-loop-end.ensures ∙ c.if-is_some-2.false))
          (ap (λ (k : _). rule_above (g.R.DecidesAlone.alone c.args.rules.now) (take k c.args.path.now)) (sym same) ∙ l.invariant.rest);
    }
