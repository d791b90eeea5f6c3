use Rattle.std.proofs.Common.{◌∷◌, [], None, Some}
use Rattle.std.proofs.lemmas.Bool.Decides.{Decides-eqb}
use Rattle.std.proofs.lemmas.Slice.Eq.{starts_is, strip_prefix_is}
use Rattle.glob_path.proofs.lemmas.Keys.{no_rest, rest_begins}
use Rattle.glob_path.proofs.key.is_below.Goals as goal

pub returns-in-Some : goal.returns-in-Some
returns-in-Some c =
    let key = c.args.key.now in
    let folder = c.args.folder.now in
    let rest = c.in-Some.rest.now in
    let begins = starts_is Decides-eqb rest (47 ∷ []) _ c.starts_with.ensures.value in
    rest_begins key folder rest c.starts_with.result (strip_prefix_is Decides-eqb key folder (Some c.in-Some.rest) c.in-Some.ensures.cases) begins.0 begins.1

pub returns-in-None : goal.returns-in-None
returns-in-None c = no_rest c.args.key.now c.args.folder.now (strip_prefix_is Decides-eqb c.args.key.now c.args.folder.now None c.in-None.ensures.cases)
