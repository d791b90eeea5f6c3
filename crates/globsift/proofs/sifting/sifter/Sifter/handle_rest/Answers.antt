use Rattle.std.proofs.Common.{ap, ◌∙◌, List, ℕ}
use Rattle.std.specs.List.{list_any}
use Rattle.std.proofs.lemmas.Result.{MatchResult-weaker}
use Rattle.globset.specs.SetValue.{set_globs}
use Rattle.globsift.specs.Lines.{is_lf}
use Rattle.globsift.proofs.lemmas.Chunks.{rest_empty, rest_filled, rest_handled, rest_fails}
use Rattle.globsift.proofs.sifting.sifter.Sifter.handle_rest.Goals as goal

pub returns-then-is_empty : goal.returns-then-is_empty
returns-then-is_empty g c = rw (← c.as_slice-rest.ensures.value) (rest_empty _ _ c.as_slice-rest.result.now _ _ _ _ c.is_empty.ensures c.if-is_empty.true)

pub returns : goal.returns
returns g c =
    let none = ap (λ (l : List ℕ). list_any is_lf l) c.as_slice-rest.ensures.value ∙ c.requires in
    let p = rest_filled (set_globs c.args.self.now.output.searcher.set) c.args.self.now.output.numbered c.as_slice-rest.result.now _ none c.is_empty.ensures c.if-is_empty.false in
    rw (← c.as_slice-rest.ensures.value) (MatchResult-weaker c.handle_line.result c.handle_line.ensures.done
    (λ u m. rest_handled _ _ c.as_slice-rest.result.now _ _ _ _ _ _ p m)
    (λ f m. rest_fails _ _ c.as_slice-rest.result.now _ _ _ f p.0 m))
