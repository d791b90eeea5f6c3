use Rattle.std.proofs.Common.{◌++◌, map, ap, subst, sym, take_all, ◌∙◌, arith}
use Rattle.std.proofs.lemmas.List.{append-nil}
use Rattle.std.proofs.lemmas.List.Filters.{dedup_is}
use Rattle.glob_path.specs.Texts.{entry_of}
use Rattle.set_matcher.specs.inner.Folders.{AddsFolder, AreRising, HaveFolders, shown_of}
use Rattle.set_matcher.proofs.lemmas.Folders.{folders_tell, kept_rising, next_path, next_text, same_shown}
use Rattle.set_matcher.proofs.folders.Folders.new.Goals as goal

pub loop-at-preserved : goal.loop-at-preserved
loop-at-preserved c =
    let starts = shown_of c.loop-at.starts.items in
    let more = shown_of c.push_start.new.starts.items in
    next_path starts more c.args.paths.now c.loop-at.at (omega (arith, c.loop-at-test.true, c.len-at-end.ensures))
    (subst (λ key. AddsFolder starts more key) c.key.ensures c.in_ok-push_start.ensures) c.loop-at.invariant

pub loop-text-init : goal.loop-text-init
loop-text-init c =
    let paths = c.args.paths.now in
    subst (λ keys. HaveFolders (shown_of c.loop-at.starts.items) keys)
    (take_all c.loop-at.at paths (omega (arith, c.loop-at-test.false, c.len-at-end.ensures)) ∙ sym (append-nil paths)) c.loop-at.invariant

pub loop-text-preserved : goal.loop-text-preserved
loop-text-preserved c =
    let starts = shown_of c.loop-text.starts.items in
    let more = shown_of c.push_start-in-loop-text.new.starts.items in
    next_text starts more c.args.paths.now c.args.prefixes.now c.loop-text.text-index c.text-item.result c.loop-text-test.true (sym c.text-item.is)
    (subst (λ key. AddsFolder starts more key) c.deref.ensures.value c.in_ok-push_start-2.ensures) c.loop-text.invariant

pub invariant_of-result : goal.invariant_of-result
invariant_of-result c =
    let is = c.in_ok-copies.ensures ∙ ap shown_of c.deref-2.ensures.value in
    subst AreRising (sym is) (kept_rising c.sort_unstable.new.self.items c.dedup.new.self.items c.sort_unstable.ensures.sorted (dedup_is same_shown c.sort_unstable.new.self.items c.dedup.new.self.items c.dedup.ensures.filtered))

pub returns : goal.returns
returns c =
    let paths = c.args.paths.now in
    let all = take_all c.loop-text.text-index c.args.prefixes.now c.loop-text-test.false in
    folders_tell paths (map entry_of c.args.prefixes.now) c.loop-text.starts.items c.sort_unstable.new.self.items c.dedup.new.self.items _
    (subst (λ texts. HaveFolders (shown_of c.loop-text.starts.items) (paths ++ map entry_of texts)) all c.loop-text.invariant)
    c.sort_unstable.ensures.permutation (dedup_is same_shown c.sort_unstable.new.self.items c.dedup.new.self.items c.dedup.ensures.filtered) (c.in_ok-copies.ensures ∙ ap shown_of c.deref-2.ensures.value)
