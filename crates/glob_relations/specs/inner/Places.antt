-- Paths of a domain, read byte by byte.
use Rattle.std.specs.Prelude.{◌==◌, ℕ, Bool, true, false, List, [], ◌∷◌, Option, Some, None, if◌then◌else◌}
use Rattle.glob_relations.specs.declared.domain.Domain.{Domain}
use Rattle.glob_relations.specs.declared.domain.Domain.TheVariants.{AllPaths, RelativePaths}
use Rattle.glob_relations.specs.declared.domain.PathPlace.{PathPlace}
use Rattle.glob_relations.specs.declared.domain.PathPlace.TheVariants.{Anywhere, Start, Dot, TwoDots, Inside}
use Rattle.glob_relations.specs.declared.domain.Kind.{Kind}
use Rattle.glob_relations.specs.declared.domain.Kind.TheVariants.{Slash, Point, Zero, Other}

-- the kind of a byte
abbrev pub kind_of : ℕ → Kind
kind_of b = if b == 47 then Slash else (if b == 46 then Point else (if b == 0 then Zero else Other))

-- where a path of the domain begins
abbrev pub first_place : Domain → PathPlace
first_place AllPaths = Anywhere
first_place RelativePaths = Start

-- the place after a byte of the kind, if some path of the domain begins so
abbrev pub after_kind : PathPlace → Kind → Option PathPlace
after_kind Anywhere k = Some Anywhere
after_kind Start Point = Some Dot
after_kind Dot Point = Some TwoDots
after_kind Inside Slash = Some Start
after_kind p Point = Some Inside
after_kind p Other = Some Inside
after_kind p Slash = None
after_kind p Zero = None

-- the place after the byte, if some path of the domain begins so
abbrev pub place_after : PathPlace → ℕ → Option PathPlace
place_after p b = after_kind p (kind_of b)

-- a path of the domain may end there
abbrev pub is_last_place : PathPlace → Bool
is_last_place Anywhere = true
is_last_place Inside = true
is_last_place p = false

-- the bytes lead from the place to a place where a path may end
abbrev pub ends_in : Option PathPlace → List ℕ → Bool
ends_in None y = false
ends_in (Some p) [] = is_last_place p
ends_in (Some p) (b ∷ bs) = ends_in (place_after p b) bs
