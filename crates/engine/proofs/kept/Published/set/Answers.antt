use Rattle.std.proofs.Common.{◌≡◌, ◌∙◌, sym}
use Rattle.engine.proofs.lemmas.Numbers.{numbers-inj}
use Rattle.engine.proofs.kept.Published.set.Goals as goal

pub set-requires : goal.set-requires
set-requires c = λ nfa e.
    let same : nfa ≡ c.args.self.now = numbers-inj nfa c.self.inside.made_for.value (e ∙ c.self.invariant) ∙ c.self.view_is in
    c.requires ∙ sym same
