-- Elements and patterns as contracts see them.
use Rattle.std.specs.Prelude.{Bool, true, false, ◌||◌, List, map}
use Rattle.std.specs.List.{list_all}
use Rattle.ignore_pattern.specs.declared.element.Element.{Element}
use Rattle.ignore_pattern.specs.declared.element.Element.TheVariants as held
use Rattle.ignore_pattern.specs.declared.element.ElementAt.{ElementAt}
use Rattle.ignore_pattern.specs.Elements as elements
use Rattle.ignore_pattern.specs.Patterns.{Pattern}

-- an element; a class by its items
abbrev pub element_of : Element → elements.Element
element_of (held.Literal c) = elements.Literal c
element_of (held.Escaped c) = elements.Escaped c
element_of held.Any = elements.Any
element_of held.Star = elements.Star
element_of held.Folders = elements.Folders
element_of held.Everything = elements.Everything
element_of (held.Class negated items) = elements.Class negated items.items

-- the elements in a list
abbrev pub elements_of : List Element → List elements.Element
elements_of es = map element_of es

-- the reading at a position
abbrev pub at_of : ElementAt → elements.ElementAt
at_of e = elements.at (element_of e.element) e.more e.place

-- a pattern
abbrev pub pattern_of : Bool → Bool → Bool → List Element → Pattern
pattern_of negated folders_only whole es = record { negated = negated; folders_only = folders_only; whole = whole; elements = elements_of es }

-- the element matches no `/`
abbrev pub is_inside : elements.Element → Bool
is_inside (elements.Literal c) = elements.is_inner c
is_inside (elements.Escaped c) = elements.is_inner c
is_inside elements.Any = true
is_inside elements.Star = true
is_inside elements.Folders = false
is_inside elements.Everything = false
is_inside (elements.Class negated items) = true

-- the elements of a pattern for last components match no `/`
abbrev pub are_inside : Bool → List elements.Element → Bool
are_inside whole es = whole || list_all is_inside es
