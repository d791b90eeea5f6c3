-- The lists of bytes that a token matches. Such a list is a whole path or a piece of a path. A byte is a number from 0 to 255.
use Rattle.std.specs.Prelude.{ℕ, Bool, true, false, not, ◌&&◌, ◌||◌, ◌==◌, List, [], ◌∷◌, map, if◌then◌else◌, encode_utf8}
use Rattle.std.specs.Char.{to_ascii_lowercase}
use Rattle.std.specs.List.{list_all}
use Rattle.std.specs.Str.{bytes_eq}
use Rattle.bit_sets.specs.Texts.{is_empty, is_one_byte, some_cut}
use Rattle.glob_syntax.specs.declared.options.Options.{Options}
use Rattle.glob_syntax.specs.Token.{Token, Literal, Any, ZeroOrMore, RecursivePrefix, RecursiveSuffix, RecursiveZeroOrMore, Class, Group, Tokens, end, and_then, Branches, none, branch}
use Rattle.glob_syntax.specs.Blank.{is_kept, any_kept}
use Rattle.glob_syntax.specs.Characters.{is_character}
use Rattle.glob_syntax.specs.ClassBytes.{class_has}

-- ---- lists of bytes

-- `/`
abbrev pub slash : ℕ
slash = 47

-- the first byte is `/`
abbrev pub begins_with_slash : List ℕ → Bool
begins_with_slash [] = false
begins_with_slash (c ∷ cs) = c == slash

-- the last byte is `/`
abbrev pub ends_with_slash : List ℕ → Bool
ends_with_slash [] = false
ends_with_slash (c ∷ []) = c == slash
ends_with_slash (c ∷ d ∷ rest) = ends_with_slash (d ∷ rest)

-- ---- tokens

-- `?` and `*` match the byte: any byte, but not `/` under `literal_separator`
abbrev pub is_wild : Options → ℕ → Bool
is_wild o c = not (o.literal_separator && (c == slash))

-- the bytes are a character, but not `/` under `literal_separator`
abbrev pub is_wild_character : Options → List ℕ → Bool
is_wild_character o b = is_character b && not (o.literal_separator && is_one_byte (λ c. c == slash) b)

-- the bytes as literals compare them: under `case_insensitive` each ASCII letter as its lower case
abbrev pub compared : Options → List ℕ → List ℕ
compared o b = if o.case_insensitive then map to_ascii_lowercase b else b

abbrev mutual
  -- the token matches the bytes
  pub token_matches : Options → Token → List ℕ → Bool
  -- the bytes are the character in UTF-8
  token_matches o (Literal c) b = bytes_eq (compared o b) (compared o (encode_utf8 c))
  -- under `whole_character` a character, and otherwise a byte
  token_matches o Any b = if o.whole_character then is_wild_character o b else is_one_byte (is_wild o) b
  token_matches o ZeroOrMore b = list_all (is_wild o) b
  token_matches o RecursivePrefix b = is_empty b || ends_with_slash b
  token_matches o RecursiveSuffix b = begins_with_slash b
  -- a single `/` is both the first and the last byte
  token_matches o RecursiveZeroOrMore b = begins_with_slash b && ends_with_slash b
  -- a class may match `/`, also under `literal_separator`
  token_matches o (Class negated rs) b = is_one_byte (class_has o negated rs) b
  -- a kept branch matches the bytes; a group with no kept branch matches only the empty list
  token_matches o (Group bs) b = some_branch_matches o bs b || (not (any_kept o bs) && is_empty b)

  -- a kept branch matches the bytes
  pub some_branch_matches : Options → Branches → List ℕ → Bool
  some_branch_matches o none b = false
  some_branch_matches o (branch ts bs) b = (is_kept o ts && tokens_match_each o ts b) || some_branch_matches o bs b

  -- the tokens match the bytes in order: the first token matches the front, and the other tokens match the rest
  pub tokens_match_each : Options → Tokens → List ℕ → Bool
  tokens_match_each o end b = is_empty b
  tokens_match_each o (and_then t ts) b = some_cut (λ x y. token_matches o t x && tokens_match_each o ts y) b
