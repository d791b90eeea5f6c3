use Rattle.std.proofs.Common.{◌≡◌, ◌⊎◌, [], subst}
use Rattle.std.specs.Prelude.{Contains}
use Rattle.set_matcher.specs.inner.Folders.{shown_of}
use Rattle.set_matcher.proofs.lemmas.Folders.{adds_known, adds_start}
use Rattle.set_matcher.proofs.folders.push_start.Goals as goal

pub returns-in_ok-push : goal.returns-in_ok-push
returns-in_ok-push c = adds_start c.args.starts.now.items c.push.new.self.items c.start_of-start.result c.args.key.now c.start_of-start.ensures c.in_ok-push.ensures.items

pub returns-else-not-is_known : goal.returns-else-not-is_known
returns-else-not-is_known c =
    let start = c.start_of-start.result.now in
    adds_known (shown_of c.args.starts.now.items) start c.args.key.now c.start_of-start.ensures
    (subst (λ xs. (start ≡ []) ⊎ Contains (shown_of xs) start) c.deref.ensures.value (c.is_known.ensures c.if-not-is_known.false))
