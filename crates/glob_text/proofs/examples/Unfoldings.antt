-- What a proof unfolds to compute `reading` and `glob_matches` at texts that are written out.
use Rattle.std.specs.Char.{encode_utf8}
use Rattle.std.specs.Str.{chars}
use Rattle.glob_syntax.specs.Ranges.{ranges, bad_range}
use Rattle.glob_syntax.specs.Lexemes.{lexemes, lexeme_at}
use Rattle.glob_syntax.specs.Nesting.{nested}
use Rattle.glob_syntax.specs.Stars.{piece}
use Rattle.glob_syntax.specs.Reading.{reading, whole, levels}
use Rattle.glob_text.specs.GlobMatches.{tokens_of_glob, glob_matches}

unfoldable pub glob_on_literals : Unit {0}
unfolding chars encode_utf8 ranges bad_range lexemes lexeme_at nested piece reading whole levels tokens_of_glob glob_matches
glob_on_literals = tt
