-- A glob's text, a list of characters, is split from left to right into lexemes: plain characters, `?`, runs of `*`,
-- classes, braces and commas.
use Rattle.std.specs.Prelude.{ℕ, zero, suc, ◌+◌, List, [], ◌∷◌, Bool, true, false, ◌||◌, ◌&&◌, ◌==◌, if◌then◌else◌, take, drop, Option, Some, None}
use Rattle.std.specs.List.{prefix_len, position}
use Rattle.glob_syntax.specs.declared.options.Options.{Options}
use Rattle.glob_syntax.specs.declared.parse_error_kind.ParseErrorKind.{ParseErrorKind}
use Rattle.glob_syntax.specs.declared.parse_error_kind.ParseErrorKind.TheVariants.{UnclosedClass, DanglingEscape}
use Rattle.glob_syntax.specs.Ranges.{ranges, bad_range}

-- a part of a text, and its meaning for the reading
pub data Lexeme : Type 0 where
  -- a plain character: whether it was escaped, and the character
  Char : Bool → ℕ → Lexeme
  -- `?`
  One : Lexeme
  -- a run of unescaped `*`, as long as possible, by its length
  Stars : ℕ → Lexeme
  -- a closed class: whether it is negated, and its ranges in order
  Class : Bool → List (ℕ × ℕ) → Lexeme
  -- `{`
  Open : Lexeme
  -- `,`, inside braces or not
  Comma : Lexeme
  -- `}`
  Close : Lexeme
  -- an error at this position
  Bad : ParseErrorKind → Lexeme

-- ---- classes

-- `]`
abbrev pub is_closer : ℕ → Bool
is_closer c = c == 93

-- the first character is `!` or `^`
abbrev pub is_negated : List ℕ → Bool
is_negated [] = false
is_negated (c ∷ cs) = c == 33 || c == 94

-- The number of characters of the body of a class that begins with these characters. The first is always a member; the next `]`
-- closes the class. `None` if no `]` does.
abbrev pub members : List ℕ → Option ℕ
members cs = elim (position is_closer (drop 1 cs)) [ None ↦ None | Some n ↦ Some (n + 1) ]

-- a closed class with this body; a bad range is an error
abbrev pub class_lexeme : Bool → List ℕ → Lexeme
class_lexeme negated body = elim (bad_range body) [ None ↦ Class negated (ranges body) | Some f ↦ Bad f ]

-- A `[` that no `]` closes, where `rest` follows it and its negation, if there is any. With `allow_unclosed_class` the `[` alone
-- is a plain character, and the text after it, the negation too, is split as usual. Without it, it is an error: the error of the
-- first bad range of `rest`, read as a body, and `UnclosedClass` if there is none.
abbrev pub unclosed_lexeme : Options → List ℕ → Lexeme
unclosed_lexeme o rest = elim o.allow_unclosed_class [ true ↦ Char false 91 | false ↦ elim (bad_range rest) [ None ↦ Bad UnclosedClass | Some f ↦ Bad f ] ]

-- ---- the lexeme at a position

-- In what follows, a lexeme comes with the number of characters that belong to it after its first.

-- the lexeme at a `[` that `skipped` characters of negation and then `cs` follow
abbrev pub class_at : Options → ℕ → Bool → List ℕ → Lexeme × ℕ
class_at o skipped negated cs = elim (members cs) [ None ↦ (unclosed_lexeme o cs, 0) | Some n ↦ (class_lexeme negated (take n cs), skipped + n + 1) ]

-- the lexeme at a `\` that escapes, followed by `cs`
abbrev pub escape_at : List ℕ → Lexeme × ℕ
escape_at [] = (Bad DanglingEscape, 0)
escape_at (c ∷ cs) = (Char true c, 1)

-- a run of stars, with this number after the first
abbrev pub star_run : ℕ → Lexeme × ℕ
star_run more = (Stars (suc more), more)

-- The lexeme that begins with `c`, followed by `cs`. The special characters are `?`, `*`, `[`, `{`, `}`, `,` and, with
-- `backslash_escape`, `\`. Every other character is plain, also `]` and `!`.
unfoldable pub lexeme_at : Options → ℕ → List ℕ → Lexeme × ℕ
lexeme_at o c cs =
    if c == 63 then (One, 0)
    else (if c == 42 then star_run (prefix_len (λ d. d == 42) cs)
    else (if c == 91 then (if is_negated cs then class_at o 1 true (drop 1 cs) else class_at o 0 false cs)
    else (if c == 123 then (Open, 0)
    else (if c == 125 then (Close, 0)
    else (if c == 44 then (Comma, 0)
    else (if c == 92 && o.backslash_escape then escape_at cs
    else (Char false c, 0)))))))

-- ---- the lexemes of a text

-- the lexemes of these characters, where the first n belong to the lexeme before them
unfoldable pub lexemes : Options → ℕ → List ℕ → List Lexeme
lexemes o n [] = []
lexemes o (suc n) (c ∷ cs) = lexemes o n cs
lexemes o zero (c ∷ cs) = let m = lexeme_at o c cs in m.0 ∷ lexemes o m.1 cs
