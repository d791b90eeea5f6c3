use Rattle.std.proofs.Common.{IsTrue, refl, subst}
use Rattle.std.specs.Prelude.{◌↔◌}
use Rattle.glob_path.specs.declared.trie.Anchor.TheVariants.{Start}
use Rattle.set_matcher.specs.inner.KeysBelow.{MatchesBelow}
use Rattle.set_matcher.specs.inner.LiteralIndex.{KeyParts}
use Rattle.set_matcher.specs.inner.Parts.{HasFolders}
use Rattle.set_matcher.proofs.lemmas.KeysBelow.{at_anchor, by_folder, by_others, by_walk}
use Rattle.set_matcher.proofs.literal_index.LiteralIndex.can_match_below.Goals as goal

pub returns-in_default-clause-some : goal.returns-in_default-clause-some
returns-in_default-clause-some c =
    let inside = c.self.inside in
    let k : KeyParts = record { paths = inside.paths; components = inside.components; extensions = inside.extensions; prefixes = inside.prefixes.entries; ends = inside.ends.entries } in
    let others = subst (λ o. HasFolders o k.paths k.components k.extensions k.prefixes k.ends) c.in_default.is c.self.invariant.has_folders in
    (λ yes. subst (λ k. MatchesBelow k c.args.folder.now) c.self.view_is (by_others k c.args.folder.now others), λ h. refl)

pub returns-then-has_below-clause-some : goal.returns-then-has_below-clause-some
returns-then-has_below-clause-some c =
    let inside = c.self.inside in
    let k : KeyParts = record { paths = inside.paths; components = inside.components; extensions = inside.extensions; prefixes = inside.prefixes.entries; ends = inside.ends.entries } in
    let known = subst (λ o. HasFolders o k.paths k.components k.extensions k.prefixes k.ends) c.in-Some.is c.self.invariant.has_folders in
    (λ yes. subst (λ k. MatchesBelow k c.args.folder.now) c.self.view_is (by_folder k c.in-Some.folders c.args.folder.now known.1 (c.has_below.ensures.some.0 c.if-has_below.true)), λ h. refl)

pub returns-clause-some : goal.returns-clause-some
returns-clause-some c =
    let inside = c.self.inside in
    let k : KeyParts = record { paths = inside.paths; components = inside.components; extensions = inside.extensions; prefixes = inside.prefixes.entries; ends = inside.ends.entries } in
    let known = subst (λ o. HasFolders o k.paths k.components k.extensions k.prefixes k.ends) c.in-Some.is c.self.invariant.has_folders in
    subst (λ k. IsTrue c.is_match.result ↔ MatchesBelow k c.args.folder.now) c.self.view_is
    (by_walk k c.in-Some.folders inside.prefixes c.args.folder.now c.is_match.result known.1 (at_anchor inside.prefixes Start c.self.invariant.at_beginning)
    known.0 (λ has. let yes = c.has_below.ensures.some.1 has in absurd (cc)) c.is_match.ensures.some)
