-- The lines of an ignore file, and the part of a line that its pattern is read from. Files and lines are lists of bytes.
use Rattle.std.specs.Prelude.{ℕ, not, ◌==◌, List, [], ◌∷◌, take, drop, take_while, if◌then◌else◌}
use Rattle.std.specs.Str.{bytes_eq}
use Rattle.std.specs.List.{slice_split}
use Rattle.ignore_pattern.specs.Ends.{without_last}

-- ---- lines

-- the bytes without a byte order mark at their start, which is EF BB BF
abbrev pub without_byte_order_mark : List ℕ → List ℕ
without_byte_order_mark bytes = if bytes_eq (take 3 bytes) (0xEF ∷ 0xBB ∷ 0xBF ∷ []) then drop 3 bytes else bytes

-- The lines of some bytes: the parts before, between and after the line feeds. The last is empty if the bytes end with a line
-- feed.
unfoldable pub lines_of : List ℕ → List (List ℕ)
lines_of bytes = slice_split (λ c. c == 10) bytes

-- the lines of an ignore file
abbrev pub file_lines : List ℕ → List (List ℕ)
file_lines bytes = lines_of (without_byte_order_mark bytes)

-- ---- the text of a line

-- the bytes before the first NUL
abbrev pub before_nul : List ℕ → List ℕ
before_nul line = take_while (λ c. not (c == 0)) line

-- a byte before the kept bytes after it; a space with nothing after it goes, too
abbrev pub before_kept : ℕ → List ℕ → List ℕ
before_kept c [] = if c == 32 then [] else c ∷ []
before_kept c (d ∷ ds) = c ∷ d ∷ ds

-- The bytes without the spaces at their end. A space after a `\` that escapes it stays, and so do the bytes before it. Other
-- white space stays.
abbrev pub without_spaces : List ℕ → List ℕ
without_spaces [] = []
without_spaces (c ∷ []) = before_kept c []
without_spaces (c ∷ d ∷ cs) = if c == 92 then c ∷ d ∷ without_spaces cs else before_kept c (without_spaces (d ∷ cs))

-- The text of a line: without a carriage return at its end, up to the first NUL, and without the spaces at its end.
unfoldable pub line_text : List ℕ → List ℕ
line_text line = without_spaces (before_nul (without_last 13 line))
