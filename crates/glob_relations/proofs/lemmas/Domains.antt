-- Paths of a domain, read byte by byte.
use Rattle.std.proofs.Common.{◌≡◌, ℕ, Bool, true, false, ◌&&◌, List, [], ◌∷◌, IsTrue, refl, ap, sym, ◌∙◌}
use Rattle.std.specs.Prelude.{◌==◌, ◌↔◌, not, Option, Some, None, if◌then◌else◌}
use Rattle.std.proofs.lemmas.Bool.{eqb-true}
use Rattle.std.specs.List.{list_all, onto_first}
use Rattle.bit_sets.specs.Texts.{AllBytes}
use Rattle.glob_relations.specs.Domains.{components, is_component, IsIn}
use Rattle.glob_relations.specs.declared.domain.Domain.{Domain}
use Rattle.glob_relations.specs.declared.domain.Domain.TheVariants.{AllPaths, RelativePaths}
use Rattle.glob_relations.specs.declared.domain.PathPlace.{PathPlace}
use Rattle.glob_relations.specs.declared.domain.PathPlace.TheVariants.{Anywhere, Start, Dot, TwoDots, Inside}
use Rattle.glob_relations.specs.declared.domain.Kind.{Kind}
use Rattle.glob_relations.specs.declared.domain.Kind.TheVariants.{Slash, Point, Zero, Other}
use Rattle.glob_relations.specs.inner.Places.{kind_of, after_kind, place_after, is_last_place, first_place, ends_in}

-- what is left of a component makes a component of what was read
abbrev pub fits : PathPlace → List ℕ → Bool
fits Anywhere c = true
fits Start c = is_component c
fits Dot c = is_component (46 ∷ c)
fits TwoDots c = is_component (46 ∷ 46 ∷ c)
fits Inside c = list_all (λ b. not (b == 0)) c

abbrev pub fits_after : Option PathPlace → List ℕ → Bool
fits_after None c = false
fits_after (Some p) c = fits p c

-- the first of the components is what is left of one, and the others are whole
abbrev pub all_fit : Option PathPlace → List (List ℕ) → Bool
all_fit p [] = fits_after p []
all_fit p (c ∷ cs) = fits_after p c && list_all is_component cs

-- a component that is read on
fits_more : (p : PathPlace) (b : ℕ) (c : List ℕ) → (p ≡ Anywhere → ⊥) → (b == 47) ≡ false → fits p (b ∷ c) ≡ fits_after (place_after p b) c
fits_more p b c bound other = point (b == 46) refl
  where
    rest : (z : Bool) → (b == 46) ≡ false → (b == 0) ≡ z → fits p (b ∷ c) ≡ fits_after (place_after p b) c
    rest true off is = rw (eqb-true b 0 is) (zero p bound)
      where
        zero : (q : PathPlace) → (q ≡ Anywhere → ⊥) → fits q (0 ∷ c) ≡ fits_after (place_after q 0) c
        zero Anywhere h = absurd (h refl)
        zero Start h = refl
        zero Dot h = refl
        zero TwoDots h = refl
        zero Inside h = refl
    rest false off isnt = by p bound
      where
        by : (q : PathPlace) → (q ≡ Anywhere → ⊥) → fits q (b ∷ c) ≡ fits_after (place_after q b) c
        by Anywhere h = absurd (h refl)
        by Start h = rw (other, off, isnt) refl
        by Dot h = rw (other, off, isnt) refl
        by TwoDots h = rw (other, off, isnt) refl
        by Inside h = rw (other, off, isnt) refl

    point : (z : Bool) → (b == 46) ≡ z → fits p (b ∷ c) ≡ fits_after (place_after p b) c
    point true is = rw (eqb-true b 46 is) (dot p bound)
      where
        dot : (q : PathPlace) → (q ≡ Anywhere → ⊥) → fits q (46 ∷ c) ≡ fits_after (place_after q 46) c
        dot Anywhere h = absurd (h refl)
        dot Start h = refl
        dot Dot h = refl
        dot TwoDots h = refl
        dot Inside h = refl
    point false off = rest (b == 0) off refl

and_true : (p : Bool) → (p && true) ≡ p
and_true true = refl
and_true false = refl

read_on : (p : PathPlace) (b : ℕ) (cs : List (List ℕ)) → (p ≡ Anywhere → ⊥) → (b == 47) ≡ false → all_fit (Some p) (onto_first b cs) ≡ all_fit (place_after p b) cs
read_on p b [] bound other = and_true (fits p (b ∷ [])) ∙ fits_more p b [] bound other
read_on p b (c ∷ cs) bound other = ap (λ z. z && list_all is_component cs) (fits_more p b c bound other)

all_start : (y : List ℕ) → list_all is_component (components y) ≡ all_fit (Some Start) (components y)
all_start [] = refl
all_start (b ∷ bs) = by (b == 47)
  where
    read : (cs : List (List ℕ)) → list_all is_component (onto_first b cs) ≡ all_fit (Some Start) (onto_first b cs)
    read [] = refl
    read (c ∷ cs) = refl

    by : (z : Bool) → list_all is_component (if z then [] ∷ components bs else onto_first b (components bs)) ≡ all_fit (Some Start) (if z then [] ∷ components bs else onto_first b (components bs))
    by true = refl
    by false = read (components bs)

none_fit : (cs : List (List ℕ)) → false ≡ all_fit None cs
none_fit [] = refl
none_fit (c ∷ cs) = refl

-- reading on does not lead to where any bytes may follow
stays_bound : (p : PathPlace) (k : Kind) → (p ≡ Anywhere → ⊥) → after_kind p k ≡ Some Anywhere → ⊥
stays_bound Anywhere k h e = h refl
stays_bound Start Slash h e = cc
stays_bound Start Point h e = cc
stays_bound Start Zero h e = cc
stays_bound Start Other h e = cc
stays_bound Dot Slash h e = cc
stays_bound Dot Point h e = cc
stays_bound Dot Zero h e = cc
stays_bound Dot Other h e = cc
stays_bound TwoDots Slash h e = cc
stays_bound TwoDots Point h e = cc
stays_bound TwoDots Zero h e = cc
stays_bound TwoDots Other h e = cc
stays_bound Inside Slash h e = cc
stays_bound Inside Point h e = cc
stays_bound Inside Zero h e = cc
stays_bound Inside Other h e = cc

-- the same of the bytes that follow, from each place
abbrev Again : List ℕ → Type 0
Again bs = (q : PathPlace) → (q ≡ Anywhere → ⊥) → ends_in (Some q) bs ≡ all_fit (Some q) (components bs)

ends_are : (p : PathPlace) (y : List ℕ) → (p ≡ Anywhere → ⊥) → ends_in (Some p) y ≡ all_fit (Some p) (components y)
ends_are p [] bound = last p bound
  where
    last : (q : PathPlace) → (q ≡ Anywhere → ⊥) → is_last_place q ≡ (fits q [] && true)
    last Anywhere h = absurd (h refl)
    last Start h = refl
    last Dot h = refl
    last TwoDots h = refl
    last Inside h = refl
ends_are p (b ∷ bs) bound = by (λ q h. ends_are q bs h) (b == 47) refl
  where
    slash : Again bs → (q : PathPlace) → (q ≡ Anywhere → ⊥) → ends_in (place_after q 47) bs ≡ all_fit (Some q) ([] ∷ components bs)
    slash again Anywhere h = absurd (h refl)
    slash again Start h = refl
    slash again Dot h = refl
    slash again TwoDots h = refl
    slash again Inside h = again Start (λ e. cc) ∙ sym (all_start bs)

    later : Again bs → (o : Option PathPlace) → place_after p b ≡ o → ends_in o bs ≡ all_fit o (components bs)
    later again None is = none_fit (components bs)
    later again (Some q) is = again q (λ e. stays_bound p (kind_of b) bound (is ∙ ap Some e))

    by : Again bs → (z : Bool) → (b == 47) ≡ z → ends_in (place_after p b) bs ≡ all_fit (Some p) (components (b ∷ bs))
    by again true is = rw (eqb-true b 47 is) (slash again p bound)
    by again false other =
        let read : components (b ∷ bs) ≡ onto_first b (components bs) = rw other refl in
        later again (place_after p b) refl ∙ sym (read_on p b (components bs) bound other) ∙ sym (ap (all_fit (Some p)) read)

anywhere : (y : List ℕ) → ends_in (Some Anywhere) y ≡ true
anywhere [] = refl
anywhere (b ∷ bs) = ap (λ o. ends_in o bs) (stays (kind_of b)) ∙ anywhere bs
  where
    stays : (k : Kind) → after_kind Anywhere k ≡ Some Anywhere
    stays Slash = refl
    stays Point = refl
    stays Zero = refl
    stays Other = refl

-- a list of bytes is a path of the domain exactly if it is read to a place at which one may end
pub is_in : (domain : Domain) (y : List ℕ) → IsIn domain y ↔ (AllBytes y × IsTrue (ends_in (Some (first_place domain)) y))
is_in AllPaths y = (λ bytes. (bytes, anywhere y), λ h. h.0)
is_in RelativePaths y =
    let same : ends_in (Some Start) y ≡ list_all is_component (components y) = ends_are Start y (λ e. cc) ∙ sym (all_start y) in
    (λ (bytes, all). (bytes, same ∙ all), λ (bytes, ends). (bytes, sym same ∙ ends))
