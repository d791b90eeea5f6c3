use Rattle.std.proofs.Common.{◌≡◌, ◌∙◌, ◌++◌, ap, subst}
use Rattle.bit_sets.specs.Indexes.{HasAlso}
use Rattle.bit_sets.proofs.lemmas.IndexSets.{also_then}
use Rattle.glob_path.specs.Entries.{indexes_under}
use Rattle.glob_path.specs.Texts.{Texts, found}
use Rattle.glob_path.specs.declared.trie.Anchor.{Anchor}
use Rattle.glob_path.specs.declared.trie.Anchor.TheVariants.{Start, End}
use Rattle.glob_path.specs.PathParts.{last_component, component_extension}
use Rattle.set_matcher.specs.inner.LiteralIndex.{KeyParts, texts_at}
use Rattle.set_matcher.proofs.literal_index.LiteralIndex.find.Goals as goal

anchor_is : (t : Texts) (anchor : Anchor) → t.anchor ≡ anchor → t ≡ texts_at anchor t.entries
anchor_is t anchor e = λ i. record { anchor = e i; entries = t.entries }

pub returns-clause-found : goal.returns-clause-found
returns-clause-found c =
    let keys = c.args.self.now in
    let path = c.args.path.now in
    let inside = c.self.inside in
    let paths = indexes_under keys.paths path in
    let components = indexes_under keys.components (last_component path) in
    let extensions = indexes_under keys.extensions (component_extension path) in
    let prefixes = found (texts_at Start keys.prefixes) path in
    let ends = found (texts_at End keys.ends) path in
    let one = subst (HasAlso c.args.found.now c.put_all.new.self) c.by_path.ensures.found c.put_all.ensures.has in
    let two = subst (HasAlso c.put_all.new.self c.put_all-2.new.self) c.by_component.ensures.found c.put_all-2.ensures.has in
    let three = subst (HasAlso c.put_all-2.new.self c.put_all-3.new.self) c.by_extension.ensures.found c.put_all-3.ensures.has in
    let four = subst (HasAlso c.put_all-3.new.self c.find.new.into)
    (ap (found inside.prefixes) c.path.ensures ∙ ap (λ t. found t path) (anchor_is inside.prefixes Start c.self.invariant.at_beginning) ∙ ap (λ (k : KeyParts). found (texts_at Start k.prefixes) path) c.self.view_is)
    c.find.ensures.found in
    let five = subst (HasAlso c.find.new.into c.find-2.new.into)
    (ap (found inside.ends) c.path-2.ensures ∙ ap (λ t. found t path) (anchor_is inside.ends End c.self.invariant.at_end) ∙ ap (λ (k : KeyParts). found (texts_at End k.ends) path) c.self.view_is)
    c.find-2.ensures.found in
    also_then c.args.found.now c.put_all.new.self c.find-2.new.into paths (components ++ (extensions ++ (prefixes ++ ends))) c.put_all.ensures.room one
    (also_then c.put_all.new.self c.put_all-2.new.self c.find-2.new.into components (extensions ++ (prefixes ++ ends)) c.put_all-2.ensures.room two
    (also_then c.put_all-2.new.self c.put_all-3.new.self c.find-2.new.into extensions (prefixes ++ ends) c.put_all-3.ensures.room three
    (also_then c.put_all-3.new.self c.find.new.into c.find-2.new.into prefixes ends c.find.ensures.room four five)))
