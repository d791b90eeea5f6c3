use Rattle.std.proofs.Common.{◌≡◌, ℕ, [], ◌∷◌, List, length, Some, ap, sym, subst, ◌∙◌, arith, length-append}
use Rattle.std.specs.Prelude.{Contains, slice_get}
use Rattle.std.proofs.lemmas.Option.{get_or_from_slice_get}
use Rattle.std.proofs.Math.Logic.{⊎_elim}
use Rattle.glob_text.specs.GlobMatches.{GlobValue, glob_matches}
use Rattle.glob_relations.specs.Unused.{rivals, TellsReachability}
use Rattle.glob_relations.specs.declared.unused.Reachability.{Reachability}
use Rattle.glob_relations.proofs.lemmas.Rows.{get_cases}
use Rattle.glob_relations.proofs.lemmas.Unused.{rivals_below, told_same}
use Rattle.glob_relations.proofs.unused.unreachable.Goals as goal

pub reachability_among-requires-clause-within : goal.reachability_among-requires-clause-within
reachability_among-requires-clause-within c = λ k at.
    rivals_below c.args.decides c.loop-i.i (length c.args.globs.now) k c.loop-i-test.true (subst (λ (xs : List ℕ). Contains xs k) (c.deref.ensures.value ∙ c.in_ok-others.ensures) at)

pub loop-i-preserved : goal.loop-i-preserved
loop-i-preserved c =
    let gs : List GlobValue = c.args.globs.now in
    let all : List Reachability = c.loop-i.all.items in
    let x : Reachability = c.in_ok-told.told in
    let h : GlobValue = c.index-globs-i.result in
    let here = rivals c.args.decides c.loop-i.i (length gs) in
    let inv = c.loop-i.invariant in
    record {
      len = omega (arith, inv.len, ap length c.in_ok-push.ensures.items, length-append all (x ∷ []));
      each = λ i g told at there. ⊎_elim {C = TellsReachability glob_matches gs g (rivals c.args.decides i (length gs)) c.args.domain c.args.limit told}
          (λ old. inv.each i g told at old)
          (λ (e, same).
          let found : slice_get gs c.loop-i.i ≡ Some g = ap (slice_get gs) (sym (e ∙ inv.len)) ∙ at in
          subst (λ (t : Reachability). TellsReachability glob_matches gs g (rivals c.args.decides i (length gs)) c.args.domain c.args.limit t) (sym same)
          (subst (λ (j : ℕ). TellsReachability glob_matches gs g (rivals c.args.decides j (length gs)) c.args.domain c.args.limit x) (sym (e ∙ inv.len))
          (told_same glob_matches gs g h c.deref.result.now here c.args.domain c.args.limit (c.index-globs-i.is ∙ get_or_from_slice_get gs c.loop-i.i g h found) (c.deref.ensures.value ∙ c.in_ok-others.ensures) x
          c.in_ok-told.ensures)))
          (get_cases all x i told (subst (λ (l : List Reachability). slice_get l i ≡ Some told) c.in_ok-push.ensures.items there));
    }
