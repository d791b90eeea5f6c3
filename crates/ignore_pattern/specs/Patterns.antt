-- The pattern that git reads a line of an ignore file as, by gitignore(5), and the paths that it matches. A path is that of a file
-- or folder below the folder of the ignore file, from there on.
use Rattle.std.specs.Prelude.{ℕ, zero, Bool, ◌==◌, ◌&&◌, ◌||◌, not, List, [], ◌∷◌, Option, Some, None, if◌then◌else◌}
use Rattle.std.specs.List.{list_any}
use Rattle.ignore_pattern.specs.Ends.{begins_with, without_first, without_last}
use Rattle.bit_sets.specs.Texts.{ends_with}
use Rattle.ignore_pattern.specs.Lines.{line_text}
use Rattle.ignore_pattern.specs.Elements.{Element, elements, elements_match}
use Rattle.ignore_pattern.specs.declared.place.Place.TheVariants.{Start}

-- the pattern of a line
pub record Pattern : Type 0 where
  -- it begins with `!`: matched paths are kept, not ignored
  pub negated : Bool
  -- it ends with `/`: it is for folders alone
  pub folders_only : Bool
  -- There is another `/` in it, so it is matched against whole paths. Without it the pattern is matched against last components.
  pub whole : Bool
  pub elements : List Element

-- ---- reading

-- there is a `/`
abbrev pub has_slash : List ℕ → Bool
has_slash cs = list_any (λ c. c == 47) cs

-- the pattern with these elements; without elements there is none, and nothing is matched
abbrev pub pattern_with : Bool → Bool → Bool → Option (List Element) → Option Pattern
pattern_with negated folders_only whole None = None
pattern_with negated folders_only whole (Some []) = None
pattern_with negated folders_only whole (Some (e ∷ es)) = Some (record { negated = negated; folders_only = folders_only; whole = whole; elements = e ∷ es })

-- The pattern of bytes that have no `!` before them and no `/` after them. A `/` at their start is no part of the pattern, but
-- makes it a pattern for whole paths.
abbrev pub pattern_between : Bool → Bool → List ℕ → Option Pattern
pattern_between negated folders_only cs = let whole = has_slash cs in pattern_with negated folders_only whole (elements whole Start zero (without_first 47 cs))

-- the pattern of bytes that have no `!` before them
abbrev pub pattern_after : Bool → List ℕ → Option Pattern
pattern_after negated cs = pattern_between negated (ends_with 47 cs) (without_last 47 cs)

-- the pattern of the text of a line: none of a comment, which begins with `#`
unfoldable pub pattern_of_text : List ℕ → Option Pattern
pattern_of_text cs = if begins_with 35 cs then None else pattern_after (begins_with 33 cs) (without_first 33 cs)

-- The pattern of a line, or none: then the line matches nothing.
abbrev pub pattern_of_line : List ℕ → Option Pattern
pattern_of_line line = pattern_of_text (line_text line)

-- ---- matching

-- the bytes after the last `/`, or all
abbrev pub last_component : List ℕ → List ℕ
last_component [] = []
last_component (c ∷ cs) = if has_slash (c ∷ cs) then last_component cs else c ∷ cs

-- The pattern matches the path. The first argument says whether case is ignored, as git's `core.ignoreCase` does. The caller
-- checks whether the pattern is for folders alone.
unfoldable pub pattern_matches : Bool → Pattern → List ℕ → Bool
pattern_matches ignore_case p path = elements_match ignore_case p.elements (if p.whole then path else last_component path)

-- The rule of the pattern applies to the path, of a folder or of something else: the pattern matches the path, which has to be a
-- folder if the pattern is for folders alone.
abbrev pub applies : Bool → Pattern → List ℕ → Bool → Bool
applies ignore_case p path is_folder = (is_folder || not p.folders_only) && pattern_matches ignore_case p path
