use Rattle.std.proofs.Common.{inr, IsTrue, subst, sym}
use Rattle.std.specs.Prelude.{Contains}
use Rattle.std.specs.Cmp.Lexicographic.{bytes_decides}
use Rattle.set_matcher.specs.inner.Folders.{shown_of}
use Rattle.set_matcher.proofs.lemmas.Folders.{shows_last}
use Rattle.set_matcher.proofs.folders.is_known.Goals as goal

pub returns-in-Some : goal.returns-in-Some
returns-in-Some c = λ yes. inr (subst (λ text. Contains (shown_of c.args.starts.now) text) ((bytes_decides c.in-Some.last.now.now c.args.start.now).0 (subst IsTrue c.eq.ensures yes))
    (shows_last c.args.starts.now c.in-Some.last.now (sym c.in-Some.ensures.value)))
