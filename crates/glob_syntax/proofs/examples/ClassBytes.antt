-- Examples of the bytes that classes contain, in ascending order. Each example is computed over all bytes from 0 to 255. A
-- range of two characters contains, of their bytes in UTF-8, those of the first except its last, those from that one up to
-- the first byte of the second, and the others of the second. So `[é-ü]` contains C3, A9 to C3, and BC: the bytes A9 to C3.
use Rattle.std.specs.Prelude.{[], ◌∷◌, ◌++◌, refl}
use Rattle.glob_syntax.specs.declared.options.TheConstants.Options.{DEFAULT}
use Rattle.glob_syntax.proofs.examples.Unfoldings.{reading_on_literals}
use Rattle.glob_syntax.proofs.examples.Words.{AreEqual, insensitive, separated, bytes_had, from_to}

bytes_had_rows : AreEqual (
    (bytes_had DEFAULT "[é]", 0xA9 ∷ 0xC3 ∷ [])  -- character past ascii
    ∷ (bytes_had DEFAULT "[é-ü]", from_to 0xA9 0xC3)  -- range past ascii
    ∷ (bytes_had DEFAULT "[a-é]", from_to 0x61 0xC3)  -- range from ascii
    ∷ (bytes_had DEFAULT "[☃]", 0x83 ∷ 0x98 ∷ 0xE2 ∷ [])  -- character of three bytes
    ∷ (bytes_had DEFAULT "[.-0]", 0x2E ∷ 0x2F ∷ 0x30 ∷ [])  -- range about slash
    ∷ (bytes_had insensitive "[!a]", from_to 0x00 0x40 ++ from_to 0x42 0x60 ++ from_to 0x62 0xFF)  -- negated and insensitive
    ∷ (bytes_had DEFAULT "[a]", 0x61 ∷ [])  -- letter
    ∷ (bytes_had insensitive "[a]", 0x41 ∷ 0x61 ∷ [])  -- letter insensitive
    ∷ (bytes_had insensitive "[A]", 0x41 ∷ 0x61 ∷ [])  -- capital insensitive
    ∷ (bytes_had DEFAULT "[!a]", from_to 0x00 0x60 ++ from_to 0x62 0xFF)  -- negated
    ∷ (bytes_had DEFAULT "[^é]", from_to 0x00 0xA8 ++ from_to 0xAA 0xC2 ++ from_to 0xC4 0xFF)  -- negated past ascii
    ∷ (bytes_had DEFAULT "[ü-ā]", 0x81 ∷ from_to 0xBC 0xC4)  -- last byte below the range
    ∷ (bytes_had DEFAULT "[☃-😀]", 0x80 ∷ from_to 0x83 0xF0)  -- bytes of both ends
    ∷ (bytes_had DEFAULT "[‿-☃]", 0x80 ∷ 0x83 ∷ 0x98 ∷ from_to 0xBF 0xE2)  -- inner byte below the range
    ∷ (bytes_had insensitive "[x-z]", from_to 0x58 0x5A ++ from_to 0x78 0x7A)  -- range between letters
    ∷ (bytes_had insensitive "[Z-a]", 0x41 ∷ from_to 0x5A 0x61 ++ 0x7A ∷ [])  -- range between the cases
    ∷ (bytes_had insensitive "[É]", 0x89 ∷ 0xC3 ∷ [])  -- no other case past ascii
    ∷ (bytes_had DEFAULT "[0-2a-c]", from_to 0x30 0x32 ++ from_to 0x61 0x63)  -- two ranges
    ∷ (bytes_had separated "[!a]", from_to 0x00 0x60 ++ from_to 0x62 0xFF)  -- slash under separator
    ∷ [])
unfolding reading_on_literals
bytes_had_rows = refl
