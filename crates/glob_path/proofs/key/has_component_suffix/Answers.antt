use Rattle.std.proofs.Common.{◌==◌, ◌∷◌, [], None, Some, true≢false, ◌-◌, length, take, ap, sym, ◌∙◌}
use Rattle.std.proofs.lemmas.Bool.Decides.{Decides-eqb}
use Rattle.std.proofs.lemmas.Slice.Eq.{ends_is, strip_suffix_is}
use Rattle.glob_path.proofs.lemmas.Keys.{front_ends, no_front}
use Rattle.glob_path.proofs.key.has_component_suffix.Goals as goal

pub returns-else-is_empty : goal.returns-else-is_empty
returns-else-is_empty c =
    let path = c.args.path.now in
    let key = c.args.key.now in
    let front = c.in-Some.front.now in
    let ends = ends_is Decides-eqb front (47 ∷ []) _ c.ends_with.ensures.value in
    front_ends path key front c.ends_with.result (strip_suffix_is Decides-eqb path key (Some c.in-Some.front) c.in-Some.ensures.cases)
    (λ none. true≢false (sym (c.is_empty.ensures ∙ ap (λ l. length l == 0) none) ∙ c.if-is_empty.false))
    (λ yes. (take (length front - 1) front, sym (ends.0 yes)), λ (x, is). ends.1 x (sym is))

pub returns-in-None : goal.returns-in-None
returns-in-None c = no_front c.args.path.now c.args.key.now (strip_suffix_is Decides-eqb c.args.path.now c.args.key.now None c.in-None.ensures.cases)
