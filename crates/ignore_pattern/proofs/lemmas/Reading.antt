-- The elements of bytes, as a loop reads them.
use Rattle.std.proofs.Common.{◌≡◌, ℕ, zero, suc, Bool, List, [], ◌∷◌, ◌++◌, length, drop, Option, Some, None, refl, sym, ◌∙◌, ap, append_assoc, append-nil}
use Rattle.std.proofs.lemmas.List.{nil_from_length}
use Rattle.std.specs.Option.{option_map}
use Rattle.ignore_pattern.specs.declared.place.Place.{Place}
use Rattle.ignore_pattern.specs.Elements.{Element, ElementAt, element_at, elements}

-- elements that were read, and then the others
abbrev pub before : List Element → Option (List Element) → Option (List Element)
before es None = None
before es (Some others) = Some (es ++ others)

skip : (whole : Bool) (place : Place) (n : ℕ) (cs : List ℕ) → elements whole place n cs ≡ elements whole place zero (drop n cs)
unfolding elements
skip whole place zero cs = refl
skip whole place (suc n) [] = refl
skip whole place (suc n) (c ∷ cs) = skip whole place n cs

-- an element before the others
abbrev with_element : Element → Option (List Element) → Option (List Element)
with_element e o = option_map (λ es. e ∷ es) o

-- the elements after one that was read, or was not
abbrev after_read : Bool → List ℕ → Option ElementAt → Option (List Element)
after_read whole cs None = None
after_read whole cs (Some e) = with_element e.element (elements whole e.place e.more cs)

read_is : (whole : Bool) (cs : List ℕ) (x : Option ElementAt) → after_read whole cs x ≡ elim x [ None ↦ None | Some e ↦ with_element e.element (elements whole e.place e.more cs) ]
read_is whole cs None = refl
read_is whole cs (Some e) = refl

step : (whole : Bool) (place : Place) (c : ℕ) (cs : List ℕ) (o : Option ElementAt) → o ≡ element_at whole place c cs → after_read whole cs o ≡ elements whole place zero (c ∷ cs)
unfolding elements
step whole place c cs o e = ap (after_read whole cs) e ∙ read_is whole cs (element_at whole place c cs)

regroup : (es : List Element) (e : Element) (o : Option (List Element)) → before (es ++ e ∷ []) o ≡ before es (with_element e o)
regroup es e None = refl
regroup es e (Some others) = ap (λ (l : List Element). let o : Option (List Element) = Some l in o) (append_assoc es (e ∷ []) others)

module _ (whole : Bool) (es : List Element) (place : Place) (rest : List ℕ) where
  pub ends : length rest ≡ 0 → Some es ≡ before es (elements whole place zero rest)
  unfolding elements
  ends nil =
      ap (λ (l : List Element). let o : Option (List Element) = Some l in o) (sym (append-nil es))
      ∙ ap (λ (l : List ℕ). before es (elements whole place zero l)) (sym (nil_from_length rest nil))

  module _ (c : ℕ) (cs : List ℕ) (cell : rest ≡ c ∷ cs) where
    pub unreadable : None ≡ element_at whole place c cs → None ≡ before es (elements whole place zero rest)
    unreadable none = ap (before es) (step whole place c cs None none ∙ ap (elements whole place zero) (sym cell))

    pub goes_on : (e : ElementAt) (new : List Element) (next : List ℕ) → Some e ≡ element_at whole place c cs → new ≡ es ++ e.element ∷ [] → next ≡ drop e.more cs
        → before new (elements whole e.place zero next) ≡ before es (elements whole place zero rest)
    goes_on e new next found pushed cut =
        (λ i. before (pushed i) (elements whole e.place zero (cut i)))
        ∙ regroup es e.element (elements whole e.place zero (drop e.more cs))
        ∙ ap (λ (o : Option (List Element)). before es (with_element e.element o)) (sym (skip whole e.place e.more cs))
        ∙ ap (before es) (step whole place c cs (Some e) found ∙ ap (elements whole place zero) (sym cell))
