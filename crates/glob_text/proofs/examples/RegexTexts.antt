-- Examples of the text that a glob has as a regular expression. Each row computes.
use Rattle.std.specs.Prelude.{[], ◌∷◌, Ok, true, codes, refl}
use Rattle.glob_syntax.specs.declared.options.TheConstants.Options.{DEFAULT}
use Rattle.glob_text.proofs.examples.Unfoldings.{glob_on_literals}
use Rattle.glob_syntax.proofs.examples.Words.{AreEqual, insensitive, separated, blank_kept, unclosed, whole}
use Rattle.glob_text.proofs.examples.Words.{regex_of}

regex_of_rows : AreEqual (
    (regex_of DEFAULT "a", Ok (codes "(?-u)^a$"))  -- letter
    ∷ (regex_of DEFAULT "?", Ok (codes "(?-u)^.$"))  -- question
    ∷ (regex_of DEFAULT "*", Ok (codes "(?-u)^.*$"))  -- star
    ∷ (regex_of DEFAULT "a?", Ok (codes "(?-u)^a.$"))  -- letter then question
    ∷ (regex_of DEFAULT "*a", Ok (codes "(?-u)^.*a$"))  -- star then letter
    ∷ (regex_of separated "?", Ok (codes "(?-u)^[^/]$"))  -- question separated
    ∷ (regex_of whole "?", Ok (codes "(?-u)^(?:[\\x00-\\x7f]|[\\xc2-\\xdf][\\x80-\\xbf]|\\xe0[\\xa0-\\xbf][\\x80-\\xbf]|[\\xe1-\\xec][\\x80-\\xbf][\\x80-\\xbf]|\\xed[\\x80-\\x9f][\\x80-\\xbf]|[\\xee-\\xef][\\x80-\\xbf][\\x80-\\xbf]|\\xf0[\\x90-\\xbf][\\x80-\\xbf][\\x80-\\xbf]|[\\xf1-\\xf3][\\x80-\\xbf][\\x80-\\xbf][\\x80-\\xbf]|\\xf4[\\x80-\\x8f][\\x80-\\xbf][\\x80-\\xbf])$"))  -- question whole
    ∷ (regex_of (record separated { whole_character = true }) "?", Ok (codes "(?-u)^(?:[\\x00-\\x2e\\x30-\\x7f]|[\\xc2-\\xdf][\\x80-\\xbf]|\\xe0[\\xa0-\\xbf][\\x80-\\xbf]|[\\xe1-\\xec][\\x80-\\xbf][\\x80-\\xbf]|\\xed[\\x80-\\x9f][\\x80-\\xbf]|[\\xee-\\xef][\\x80-\\xbf][\\x80-\\xbf]|\\xf0[\\x90-\\xbf][\\x80-\\xbf][\\x80-\\xbf]|[\\xf1-\\xf3][\\x80-\\xbf][\\x80-\\xbf][\\x80-\\xbf]|\\xf4[\\x80-\\x8f][\\x80-\\xbf][\\x80-\\xbf])$"))  -- question whole separated
    ∷ (regex_of separated "*", Ok (codes "(?-u)^[^/]*$"))  -- star separated
    ∷ (regex_of insensitive "a", Ok (codes "(?-u)(?i)^a$"))  -- letter insensitive
    ∷ (regex_of DEFAULT "", Ok (codes "(?-u)^$"))  -- empty text
    ∷ (regex_of DEFAULT "+", Ok (codes "(?-u)^\\+$"))  -- plus
    ∷ (regex_of DEFAULT "a.b", Ok (codes "(?-u)^a\\.b$"))  -- dot
    ∷ (regex_of DEFAULT "a-b~c", Ok (codes "(?-u)^a\\-b\\~c$"))  -- hyphen and tilde
    ∷ (regex_of DEFAULT "\\\\\\.\\+\\*\\?\\(\\)\\|\\[\\]\\{\\}\\^\\$\\#\\&\\-\\~", Ok (codes "(?-u)^\\\\\\.\\+\\*\\?\\(\\)\\|\\[\\]\\{\\}\\^\\$\\#\\&\\-\\~$"))  -- every escaped character
    ∷ (regex_of DEFAULT "!\"%',/:;<=>@_`", Ok (codes "(?-u)^!\"%',/:;<=>@_`$"))  -- characters not escaped
    ∷ (regex_of DEFAULT "☃", Ok (codes "(?-u)^\\xe2\\x98\\x83$"))  -- character of three bytes
    ∷ (regex_of separated "é?", Ok (codes "(?-u)^\\xc3\\xa9[^/]$"))  -- character of two bytes separated
    ∷ (regex_of DEFAULT "[*]", Ok (codes "(?-u)^[\\*]$"))  -- star in a class
    ∷ (regex_of DEFAULT "[+]", Ok (codes "(?-u)^[\\+]$"))  -- plus in a class
    ∷ (regex_of DEFAULT "[!a-z-]", Ok (codes "(?-u)^[^a-z\\-]$"))  -- negated range and hyphen
    ∷ (regex_of DEFAULT "[]a-]", Ok (codes "(?-u)^[\\]a\\-]$"))  -- bracket letter and hyphen
    ∷ (regex_of DEFAULT "[é-ü]", Ok (codes "(?-u)^[\\xc3\\xa9-\\xc3\\xbc]$"))  -- range past ascii
    ∷ (regex_of DEFAULT "**", Ok (codes "(?-u)^.*$"))  -- run
    ∷ (regex_of DEFAULT "**/", Ok (codes "(?-u)^.*$"))  -- pair
    ∷ (regex_of DEFAULT "**/**", Ok (codes "(?-u)^.*$"))  -- pair then run
    ∷ (regex_of DEFAULT "**/**/**", Ok (codes "(?-u)^.*$"))  -- two pairs then run
    ∷ (regex_of DEFAULT "**/*", Ok (codes "(?-u)^(?:/?|.*/).*$"))  -- prefix then star
    ∷ (regex_of DEFAULT "**/b", Ok (codes "(?-u)^(?:/?|.*/)b$"))  -- prefix then letter
    ∷ (regex_of DEFAULT "**/**/*", Ok (codes "(?-u)^(?:/?|.*/).*$"))  -- prefix of two pairs then star
    ∷ (regex_of DEFAULT "a/**", Ok (codes "(?-u)^a/.*$"))  -- suffix
    ∷ (regex_of DEFAULT "a/**/**", Ok (codes "(?-u)^a/.*$"))  -- suffix of a pair and a run
    ∷ (regex_of DEFAULT "a/**/b", Ok (codes "(?-u)^a(?:/|/.*/)b$"))  -- between letters
    ∷ (regex_of DEFAULT "a**b", Ok (codes "(?-u)^a.*.*b$"))  -- run between letters
    ∷ (regex_of DEFAULT "/a**", Ok (codes "(?-u)^/a.*.*$"))  -- run after slash and letter
    ∷ (regex_of DEFAULT "a**", Ok (codes "(?-u)^a.*.*$"))  -- run after letter
    ∷ (regex_of DEFAULT "**a", Ok (codes "(?-u)^.*.*a$"))  -- run before letter
    ∷ (regex_of DEFAULT "***", Ok (codes "(?-u)^.*.*.*$"))  -- three stars
    ∷ (regex_of DEFAULT "/**a", Ok (codes "(?-u)^/.*.*a$"))  -- run after slash before letter
    ∷ (regex_of DEFAULT "{a,b}", Ok (codes "(?-u)^(?:a|b)$"))  -- two branches
    ∷ (regex_of DEFAULT "{{a,b},{c,d}}", Ok (codes "(?-u)^(?:(?:a|b)|(?:c|d))$"))  -- groups in a group
    ∷ (regex_of DEFAULT "{a,{b,c}}", Ok (codes "(?-u)^(?:a|(?:b|c))$"))  -- group in the last branch
    ∷ (regex_of DEFAULT "{}", Ok (codes "(?-u)^$"))  -- empty group
    ∷ (regex_of DEFAULT "{,}", Ok (codes "(?-u)^$"))  -- group of empty branches
    ∷ (regex_of DEFAULT "{{}}", Ok (codes "(?-u)^$"))  -- empty group in a group
    ∷ (regex_of DEFAULT "{{},a}", Ok (codes "(?-u)^(?:a)$"))  -- blank branch then letter
    ∷ (regex_of DEFAULT "foo{,.txt}", Ok (codes "(?-u)^foo(?:\\.txt)$"))  -- blank branch
    ∷ (regex_of blank_kept "foo{,.txt}", Ok (codes "(?-u)^foo(?:|\\.txt)$"))  -- blank branch kept
    ∷ (regex_of blank_kept "{{},a}", Ok (codes "(?-u)^(?:(?:)|a)$"))  -- blank group kept
    ∷ (regex_of DEFAULT "{**}", Ok (codes "(?-u)^(?:.*.*)$"))  -- run in a group
    ∷ (regex_of separated "{**}", Ok (codes "(?-u)^(?:[^/]*[^/]*)$"))  -- run in a group separated
    ∷ (regex_of DEFAULT "{**/}", Ok (codes "(?-u)^(?:(?:/?|.*/))$"))  -- pair in a group
    ∷ (regex_of DEFAULT "{a\\,**}", Ok (codes "(?-u)^(?:a,.*.*)$"))  -- escaped comma then run
    ∷ (regex_of DEFAULT "a/**/{b,[!c-e]}", Ok (codes "(?-u)^a(?:/|/.*/)(?:b|[^c-e])$"))  -- between then group with a class
    ∷ (regex_of DEFAULT "a-b/**/*.{rs,é}", Ok (codes "(?-u)^a\\-b(?:/|/.*/).*\\.(?:rs|\\xc3\\xa9)$"))  -- hyphen between and a group
    ∷ (regex_of unclosed "[", Ok (codes "(?-u)^\\[$"))  -- unclosed alone
    ∷ (regex_of unclosed "[abc", Ok (codes "(?-u)^\\[abc$"))  -- unclosed then letters
    ∷ (regex_of unclosed "[]", Ok (codes "(?-u)^\\[\\]$"))  -- unclosed then closer
    ∷ (regex_of unclosed "[][", Ok (codes "(?-u)^\\[\\]\\[$"))  -- unclosed twice
    ∷ (regex_of unclosed "[!", Ok (codes "(?-u)^\\[!$"))  -- unclosed then mark
    ∷ (regex_of unclosed "[!]", Ok (codes "(?-u)^\\[!\\]$"))  -- unclosed then mark and closer
    ∷ (regex_of unclosed "{[abc,[xyz}", Ok (codes "(?-u)^(?:\\[abc|\\[xyz)$"))  -- unclosed in both branches
    ∷ (regex_of unclosed "{[abc,xyz}", Ok (codes "(?-u)^(?:\\[abc|xyz)$"))  -- unclosed in the first branch
    ∷ (regex_of unclosed "{[abc],[xyz}", Ok (codes "(?-u)^(?:[abc]|\\[xyz)$"))  -- unclosed in the last branch
    ∷ (regex_of unclosed "[z-a", Ok (codes "(?-u)^\\[z\\-a$"))  -- unclosed with a bad range
    ∷ [])
unfolding glob_on_literals
regex_of_rows = refl
