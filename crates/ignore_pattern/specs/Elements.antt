-- The elements of a pattern of an ignore file, and the bytes that they match, as git's wildmatch reads and compares them: byte by
-- byte.
use Rattle.std.specs.Prelude.{ℕ, zero, suc, ◌+◌, Bool, true, false, not, ◌&&◌, ◌||◌, ◌==◌, nat_lt, List, [], ◌∷◌, drop, Option, Some, None, if◌then◌else◌}
use Rattle.std.specs.List.{list_all, prefix_len}
use Rattle.std.specs.Option.{option_map}
use Rattle.bit_sets.specs.Texts.{ends_with, is_empty, is_one_byte, some_cut}
use Rattle.ignore_pattern.specs.Classes.{compared, class_items, class_matches}
use Rattle.ignore_pattern.specs.declared.item.Item.{Item}
use Rattle.ignore_pattern.specs.declared.place.Place.{Place}
use Rattle.ignore_pattern.specs.declared.place.Place.TheVariants.{Start, AfterSlash, Elsewhere}

-- An element of a pattern: a byte, or a wildcard or class that stands for bytes.
pub data Element : Type 0 where
  -- a byte that stands for itself
  Literal : ℕ → Element
  -- a byte after a `\`
  Escaped : ℕ → Element
  -- `?`
  Any : Element
  -- a run of `*`
  Star : Element
  -- `**/` where the stars stand for folders
  Folders : Element
  -- `**` where the stars stand for everything
  Everything : Element
  -- `[..]`: whether it is negated, and its items
  Class : Bool → List Item → Element

-- ---- matching

-- the byte is not `/`
abbrev pub is_inner : ℕ → Bool
is_inner byte = not (byte == 47)

-- The element matches the bytes. The first argument says whether case is ignored.
abbrev pub element_matches : Bool → Element → List ℕ → Bool
-- this byte
element_matches ignore_case (Literal c) b = is_one_byte (λ byte. compared ignore_case byte == compared ignore_case c) b
-- this byte, which is not changed, so one in upper case matches nothing if case is ignored
element_matches ignore_case (Escaped c) b = is_one_byte (λ byte. compared ignore_case byte == c) b
-- any byte but `/`
element_matches ignore_case Any b = is_one_byte is_inner b
-- any bytes but `/`, or none
element_matches ignore_case Star b = list_all is_inner b
-- no bytes, or bytes that end with `/`
element_matches ignore_case Folders b = is_empty b || ends_with 47 b
-- any bytes, or none
element_matches ignore_case Everything b = true
element_matches ignore_case (Class negated items) b = is_one_byte (class_matches ignore_case negated items) b

-- the elements match the bytes in order
unfoldable pub elements_match : Bool → List Element → List ℕ → Bool
elements_match ignore_case [] b = is_empty b
elements_match ignore_case (e ∷ es) b = some_cut (λ front back. element_matches ignore_case e front && elements_match ignore_case es back) b

-- ---- reading

-- The place of the byte after a plain byte. A byte that follows only plain bytes is at the start. An escaped byte is not plain, so
-- what follows it is as after a plain byte elsewhere.
abbrev pub place_after : Place → ℕ → Place
place_after Start c = Start
place_after _ c = if c == 47 then AfterSlash else Elsewhere

-- stars at this place can stand for folders
abbrev pub may_cross : Place → Bool
may_cross Elsewhere = false
may_cross _ = true

-- the reading at a position: the element, the number of bytes that belong to it after its first, and the place after it
pub record ElementAt : Type 0 where
  pub element : Element
  pub more : ℕ
  pub place : Place

-- these three as a value
abbrev pub at : Element → ℕ → Place → ElementAt
at element more place = record { element = element; more = more; place = place }

-- The last `more` of a run of stars, two or more that may cross, are followed by these bytes. Before a `/` they stand for
-- folders, which may be none, and the `/` belongs to them. At the end and before `\/` they stand for everything. Before anything
-- else they are one `*`.
abbrev pub crossing_at : ℕ → List ℕ → ElementAt
crossing_at more [] = at Everything more Elsewhere
crossing_at more (c ∷ []) = if c == 47 then at Folders (suc more) AfterSlash else at Star more Elsewhere
crossing_at more (c ∷ d ∷ cs) = if c == 47 then at Folders (suc more) AfterSlash
    else (if c == 92 && d == 47 then at Everything more Elsewhere else at Star more Elsewhere)

-- a run of stars, with `more` after the first, and the bytes after the run
abbrev pub run_at : Bool → ℕ → List ℕ → ElementAt
run_at crosses more rest = if crosses && nat_lt 0 more then crossing_at more rest else at Star more Elsewhere

-- The class after a `[` and this number of bytes of negation. `None` if it cannot be read.
abbrev pub class_after : ℕ → Bool → List ℕ → Option ElementAt
class_after skipped negated cs = elim (class_items zero true None cs) [ None ↦ None | Some class ↦ Some (at (Class negated class.0) (skipped + class.1) Elsewhere) ]

-- the class after a `[`; it is negated if `!` or `^` follows
abbrev pub class_at : List ℕ → Option ElementAt
class_at [] = None
class_at (c ∷ cs) = if c == 33 || c == 94 then class_after 1 true cs else class_after 0 false (c ∷ cs)

-- the element after a `\`: the next byte, whatever it is, and there has to be one
abbrev pub escaped_at : List ℕ → Option ElementAt
escaped_at [] = None
escaped_at (c ∷ cs) = Some (at (Escaped c) 1 (place_after Elsewhere c))

-- The element at `c`, followed by `cs`. Stars stand for folders only in a pattern that is matched against whole paths.
unfoldable pub element_at : Bool → Place → ℕ → List ℕ → Option ElementAt
element_at whole place c cs =
    if c == 92 then escaped_at cs
    else (if c == 63 then Some (at Any 0 Elsewhere)
    else (if c == 42 then (let n = prefix_len (λ d. d == 42) cs in Some (run_at (whole && may_cross place) n (drop n cs)))
    else (if c == 91 then class_at cs
    else Some (at (Literal c) 0 (place_after place c)))))

-- The elements of these bytes, where the first n belong to the element before them. `None` if an escape or a class cannot be
-- read: git then matches nothing.
unfoldable pub elements : Bool → Place → ℕ → List ℕ → Option (List Element)
elements whole place n [] = Some []
elements whole place (suc n) (c ∷ cs) = elements whole place n cs
elements whole place zero (c ∷ cs) = elim (element_at whole place c cs) [ None ↦ None | Some e ↦ option_map (λ es. e.element ∷ es) (elements whole e.place e.more cs) ]
