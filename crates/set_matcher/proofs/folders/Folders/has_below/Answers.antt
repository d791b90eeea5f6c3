use Rattle.std.proofs.Common.{IsTrue, rules, subst, sym}
use Rattle.std.specs.Prelude.{◌↔◌}
use Rattle.std.proofs.lemmas.Fn.{always_returns_same}
use Rattle.glob_path.specs.Below.{folder_start}
use Rattle.set_matcher.specs.inner.Folders.{SomeBelow, bytes_of, place_of}
use Rattle.set_matcher.proofs.lemmas.Folders.{search_tells}
use Rattle.set_matcher.proofs.folders.Folders.has_below.Goals as goal

pub returns-clause-some : goal.returns-clause-some
returns-clause-some c =
    let found = c.binary_search_by.ensures in
    let by_place = found.position (λ t. place_of t.items (folder_start c.args.folder.now)) (always_returns_same _ _ _ (λ a r f called. search rules)) in
    subst (λ texts. IsTrue c.is_ok.result ↔ SomeBelow texts c.args.folder.now) c.self.view_is
    (subst (λ texts. IsTrue c.is_ok.result ↔ SomeBelow (bytes_of texts) c.args.folder.now) c.deref.ensures.value
    (subst (λ b. IsTrue b ↔ SomeBelow (bytes_of c.deref.result.now) c.args.folder.now) (sym c.is_ok.ensures.value)
    (search_tells c.deref.result.now c.args.folder.now c.binary_search_by.result (rw c.deref.ensures.value c.self.invariant) found.bound by_place)))
