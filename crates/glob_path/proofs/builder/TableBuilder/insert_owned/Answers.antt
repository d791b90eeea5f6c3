use Rattle.std.proofs.Common.{◌≡◌, ◌∙◌, ◌++◌, ◌∷◌, [], length, ap, sym, refl}
use Rattle.std.proofs.lemmas.Bool.{eqb-true}
use Rattle.glob_path.specs.Entries.{entry}
use Rattle.glob_path.proofs.lemmas.Bytes.{first_added}
use Rattle.glob_path.proofs.builder.TableBuilder.insert_owned.Goals as goal

pub returns-then-is_empty-clause-ok : goal.returns-then-is_empty-clause-ok
returns-then-is_empty-clause-ok c =
    let none : length c.self.inside.bytes.items ≡ 0 = sym c.self.inside.bytes.ok.0 ∙ eqb-true _ 0 (sym c.is_empty.ensures ∙ c.if-is_empty.true) in
    rw c.in_ok-push.ensures.items
    (first_added c.self.inside.bytes.items c.args.key.items c.self.inside.pairs.items _ c.self.invariant none refl (c.len.ensures ∙ c.args.key.ok.0) ∙ ap (λ l. l ++ entry c.args.key.items c.args.index ∷ []) c.self.view_is)
