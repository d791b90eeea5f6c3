use Rattle.std.proofs.Common.{◌≡◌, length, refl, ap, ◌∙◌, arith}
use Rattle.std.specs.Prelude.{◌==◌, ◌++◌}
use Rattle.std.proofs.lemmas.List.{length-append}
use Rattle.glob_path.specs.Entries.{indexes_under}
use Rattle.glob_path.specs.Texts.{found}
use Rattle.glob_path.specs.declared.trie.Anchor.TheVariants.{Start, End}
use Rattle.glob_path.specs.PathParts.{last_component, component_extension}
use Rattle.set_matcher.specs.inner.LiteralIndex.{texts_at}
use Rattle.set_matcher.proofs.literal_index.LiteralIndex.is_match.Goals as goal

pub returns-then-not-is_empty-clause-some : goal.returns-then-not-is_empty-clause-some
returns-then-not-is_empty-clause-some c = (
  λ t e.
      let keys = c.args.self.now in
      let path = c.args.path.now in
      let none = ap length e in
      let both = length-append (indexes_under keys.paths path)
      (indexes_under keys.components (last_component path) ++ (indexes_under keys.extensions (component_extension path) ++ (found (texts_at Start keys.prefixes) path ++ found (texts_at End keys.ends) path))) in
      let is = ap length c.by_path.ensures.found in
      let zero : length c.by_path.result.now ≡ 0 = omega (arith, none, both, is) in
      let off = c.if-not-is_empty.ensures ∙ ap (λ n. n == 0) zero in absurd (cc),
  λ h. refl,
)
