use Rattle.std.proofs.Common.{◌≡◌, ℕ, [], ◌∷◌, List, length, Some, ap, sym, subst, ◌∙◌, arith, length-append}
use Rattle.std.specs.Prelude.{slice_get}
use Rattle.std.proofs.lemmas.Option.{get_or_from_slice_get}
use Rattle.std.proofs.Math.Logic.{⊎_elim}
use Rattle.ignore_pattern.specs.Patterns.{Pattern}
use Rattle.glob_relations.specs.Rules.{TellsRule}
use Rattle.glob_relations.specs.declared.rules.RuleReachability.{RuleReachability}
use Rattle.glob_relations.proofs.lemmas.Rows.{get_cases}
use Rattle.glob_relations.proofs.rules.unreachable_rules.Goals as goal

pub loop-i-preserved : goal.loop-i-preserved
loop-i-preserved c =
    let ps : List Pattern = c.args.patterns.now in
    let all : List RuleReachability = c.loop-i.all.items in
    let x : RuleReachability = c.in_ok-told.told in
    let q : Pattern = c.index-patterns-i.result in
    let inv = c.loop-i.invariant in
    record {
      len = omega (arith, inv.len, ap length c.in_ok-push.ensures.items, length-append all (x ∷ []));
      each = λ i p told at there. ⊎_elim {C = TellsRule c.args.ignore_case ps i p c.args.domain c.args.limit told}
          (λ old. inv.each i p told at old)
          (λ (e, same).
          let found : slice_get ps c.loop-i.i ≡ Some p = ap (slice_get ps) (sym (e ∙ inv.len)) ∙ at in
          subst (λ (t : RuleReachability). TellsRule c.args.ignore_case ps i p c.args.domain c.args.limit t) (sym same)
          (subst (λ (j : ℕ). TellsRule c.args.ignore_case ps j p c.args.domain c.args.limit x) (sym (e ∙ inv.len))
          (subst (λ (r : Pattern). TellsRule c.args.ignore_case ps c.loop-i.i r c.args.domain c.args.limit x) (c.index-patterns-i.is ∙ get_or_from_slice_get ps c.loop-i.i p q found) c.in_ok-told.ensures)))
          (get_cases all x i told (subst (λ (l : List RuleReachability). slice_get l i ≡ Some told) c.in_ok-push.ensures.items there));
    }
