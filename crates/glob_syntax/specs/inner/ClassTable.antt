-- How memory holds the bytes of a class.
use Rattle.std.specs.Prelude.{◌≡◌, ℕ, ◌<◌, List, Bool, ◌||◌, ◌==◌, length, Some, slice_get, slice_index_or, if◌then◌else◌}
use Rattle.std.specs.Char.{to_ascii_lowercase, to_ascii_uppercase}
use Rattle.glob_syntax.specs.declared.class.Membership.{Membership}
use Rattle.glob_syntax.specs.declared.class.Membership.TheVariants.{Absent, OtherCase, Present}
use Rattle.glob_syntax.specs.ClassBytes.{ranges_have}

-- how these bytes contain a byte, with and without `case_insensitive`
abbrev pub membership_in : (ℕ → Bool) → ℕ → Membership
membership_in has byte =
    if has byte then Present
    else (if has (to_ascii_lowercase byte) || has (to_ascii_uppercase byte) then OtherCase
    else Absent)

-- how ranges contain a byte
abbrev pub membership : List (ℕ × ℕ) → ℕ → Membership
membership rs byte = membership_in (λ b. ranges_have rs b) byte

-- the list says of each byte how the ranges contain it
abbrev pub IsTableOf : List (ℕ × ℕ) → List Membership → Type 0
IsTableOf rs table = (length table ≡ 256) × ((byte : ℕ) → byte < 256 → slice_get table byte ≡ Some (membership rs byte))

-- while the table is made: it says of each byte how these bytes contain it
abbrev pub Shows : (ℕ → Bool) → List Membership → Type 0
Shows has table = (byte : ℕ) → byte < 256 → slice_index_or table byte Absent ≡ membership_in has byte

-- these bytes were put into the table, in addition to its contents
abbrev pub Puts : (ℕ → Bool) → List Membership → List Membership → Type 0
Puts more old new = (has : ℕ → Bool) → Shows has old → Shows (λ b. has b || more b) new

-- the other case of an ASCII letter, and any other byte as it is
abbrev pub other_case : ℕ → ℕ
other_case byte = if (byte == to_ascii_lowercase byte) then to_ascii_uppercase byte else to_ascii_lowercase byte

-- how a byte is contained after its other case was put
abbrev pub with_other_case : Membership → Membership
with_other_case Absent = OtherCase
with_other_case OtherCase = OtherCase
with_other_case Present = Present
