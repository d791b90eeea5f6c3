-- Parts of a path are not longer than the path.
use Rattle.std.proofs.Common.{◌≡◌, ℕ, ◌+◌, ◌*◌, ◌≤◌, List, length, subst}
use Rattle.set_matcher.specs.declared.path_part.Part.{Part}
use Rattle.set_matcher.specs.declared.path_part.Part.TheVariants.{Path, LastComponent}
use Rattle.set_matcher.specs.inner.PathPart.{part_of}
use Rattle.set_matcher.proofs.lemmas.Automata.{component_visits}

-- the visits of a run over a part, within those of a run over the path
pub part_visits : (part : Part) (path text : List ℕ) (n old new : ℕ) → text ≡ part_of part path → new ≤ old + (length text + 1) * n → new ≤ old + (length path + 1) * n
part_visits Path path text n old new is few = subst (λ (t : List ℕ). new ≤ old + (length t + 1) * n) is few
part_visits LastComponent path text n old new is few = component_visits path text n old new is few
