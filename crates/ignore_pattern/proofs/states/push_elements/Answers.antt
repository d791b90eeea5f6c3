use Rattle.std.proofs.Common.{◌≡◌, ◌+◌, ◌-◌, ◌<◌, [], ◌∷◌, ◌∙◌, length, drop, ap, sym, arith}
use Rattle.std.proofs.lemmas.List.{drop_more, drop_all}
use Rattle.ignore_pattern.specs.inner.Views.{element_of, elements_of}
use Rattle.ignore_pattern.proofs.lemmas.Building.{elements_none, elements_more}
use Rattle.byte_nfa.proofs.lemmas.Growing.{grows_none, grows_then}
use Rattle.ignore_pattern.proofs.states.push_elements.Goals as goal

pub loop-i-init : goal.loop-i-init
loop-i-init c =
    let es = c.args.elements.now in
    let none : drop (length es - 0) es ≡ [] = drop_all (length es - 0) es (omega arith) in
    record {
      within = c.requires;
      grows = grows_none c.args.builder.now;
      builds = rw none (elements_none c.args.ignore_case c.args.builder.now c.args.exit);
    }

pub loop-i-preserved : goal.loop-i-preserved
loop-i-preserved c =
    let inv = c.loop-i.invariant in
    let es = c.args.elements.now in
    let i = c.loop-i.i in
    let j = length es - 1 - i in
    let e = c.index-elements-elements.result in
    let lt : j < length es = omega arith in
    let up : length es - i ≡ j + 1 = omega arith in
    let down : length es - (i + 1) ≡ j = omega arith in
    let more : drop j es ≡ e ∷ drop (j + 1) es = drop_more es j e lt ∙ ap (λ x. x ∷ drop (j + 1) es) (sym c.index-elements-elements.is) in
    record {
      within = c.in_ok-at.ensures.within;
      grows = grows_then c.args.builder.now c.loop-i.builder c.push_element.new.builder inv.grows c.push_element.ensures.grows;
      builds = rw (down, more) (elements_more c.args.ignore_case (element_of e) (elements_of (drop (j + 1) es)) c.args.builder.now c.loop-i.builder c.push_element.new.builder
          c.in_ok-at.at c.loop-i.at c.args.exit inv.grows c.push_element.ensures.grows (rw up at inv.builds) c.in_ok-at.ensures.builds);
    }
