use Rattle.std.proofs.Common.{◌≡◌, ◌+◌, List, [], ◌∷◌, ◌++◌, take, ap, sym, subst, ◌∙◌, true≢false}
use Rattle.std.proofs.lemmas.List.{take_more, take_all}
use Rattle.globset.specs.GlobMatches.{GlobValue}
use Rattle.glob_relations.specs.declared.relations.Coverage.{Coverage}
use Rattle.glob_answers.specs.Comparison.{TellsEach, TellsInclusion}
use Rattle.glob_answers.proofs.lemmas.Comparison.{each_more, inclusion_more}
use Rattle.glob_answers.proofs.comparison.inclusion_of.Goals as goal

pub loop-glob-init : goal.loop-glob-init
loop-glob-init c = record {
  each = subst (λ (told : List Coverage). TellsEach [] c.args.by.now c.args.domain c.args.limit told) (sym c.new-each.ensures.items) tt;
  all = λ path there some. absurd (true≢false (sym some));
}

pub loop-glob-preserved : goal.loop-glob-preserved
loop-glob-preserved c =
    let gs : List GlobValue = c.args.globs.now in
    let i = c.loop-glob.glob-index in
    let inv = c.loop-glob.invariant in
    let g : GlobValue = c.glob-item.result in
    let told : Coverage = c.in_ok-told.told in
    let more : take (i + 1) gs ≡ take i gs ++ g ∷ [] = take_more gs i g c.loop-glob-test.true ∙ ap (λ (x : GlobValue). take i gs ++ x ∷ []) (sym c.glob-item.is) in
    record {
      each = rw (more, c.in_ok-push.ensures.items) (each_more (take i gs) g c.args.by.now c.args.domain c.args.limit c.loop-glob.each.items told inv.each c.in_ok-told.ensures.ok);
      all = rw (more, c.in_ok-push.ensures.items, c.after-known.ensures) (inclusion_more (take i gs) g c.args.by.now c.args.domain c.args.limit c.loop-glob.each.items c.loop-glob.known told inv.all c.in_ok-told.ensures.ok);
    }

pub returns-clause-each : goal.returns-clause-each
returns-clause-each c = subst (λ (gs : List GlobValue). TellsEach gs c.args.by.now c.args.domain c.args.limit c.loop-glob.each.items) (take_all c.loop-glob.glob-index c.args.globs.now c.loop-glob-test.false) c.loop-glob.invariant.each

pub returns-clause-all : goal.returns-clause-all
returns-clause-all c = subst (λ (gs : List GlobValue). TellsInclusion gs c.args.by.now c.args.domain c.loop-glob.each.items c.loop-glob.known) (take_all c.loop-glob.glob-index c.args.globs.now c.loop-glob-test.false) c.loop-glob.invariant.all
