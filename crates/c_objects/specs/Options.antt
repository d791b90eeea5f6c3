-- The meaning of the options' bits.
use Rattle.std.specs.Prelude.{ℕ, ◌<◌, Bool, not, ◌==◌, List, bit_and}
use Rattle.glob_syntax.specs.declared.options.Options.{Options}
use Rattle.glob_text.specs.GlobMatches.{GlobValue}

-- The bit, a power of 2, is among the options' bits.
abbrev pub has_bit : ℕ → ℕ → Bool
has_bit options bit = not (bit_and options bit == 0)

-- the options of the bits: without any, the default options
abbrev pub options_of : ℕ → Options
options_of bits = record {
  case_insensitive = has_bit bits 1;
  literal_separator = has_bit bits 2;
  backslash_escape = not (has_bit bits 4);
  empty_alternates = has_bit bits 8;
  allow_unclosed_class = has_bit bits 16;
  whole_character = has_bit bits 32;
}

-- the glob of a text and of the options that the bits stand for
abbrev pub glob_of : List ℕ → ℕ → GlobValue
glob_of text bits = record { text = text; options = options_of bits }

-- each bit stands for an option
abbrev pub IsKnown : ℕ → Type 0
IsKnown bits = bits < 64
