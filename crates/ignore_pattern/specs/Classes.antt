-- Character classes of ignore files, as git's wildmatch reads them: the bytes after a `[`, and the bytes that the class matches.
use Rattle.std.specs.Prelude.{ℕ, zero, suc, ◌+◌, Bool, false, not, ◌&&◌, ◌||◌, ◌==◌, nat_le, List, [], ◌∷◌, take, Option, Some, None, codes, if◌then◌else◌, length}
use Rattle.std.specs.Str.{bytes_eq}
use Rattle.std.specs.List.{list_any, position}
use Rattle.std.specs.Option.{option_map}
use Rattle.std.specs.Char.{is_ascii_alphabetic, is_ascii_alphanumeric, is_ascii_digit, is_ascii_hexdigit, is_ascii_lowercase, is_ascii_uppercase, is_ascii_punctuation, is_ascii_graphic, is_ascii_control, to_ascii_lowercase, to_ascii_uppercase}
use Rattle.bit_sets.specs.Bytes.{differ}
use Rattle.ignore_pattern.specs.Ends.{without_last}
use Rattle.bit_sets.specs.Texts.{ends_with}
use Rattle.ignore_pattern.specs.declared.item.ClassName.{ClassName}
use Rattle.ignore_pattern.specs.declared.item.ClassName.TheVariants.{Alnum, Alpha, Blank, Cntrl, Digit, Graph, Lower, Print, Punct, Space, Upper, Xdigit}
use Rattle.ignore_pattern.specs.declared.item.Item.{Item}
use Rattle.ignore_pattern.specs.declared.item.Item.TheVariants.{Member, Range, Named}
use Rattle.ignore_pattern.specs.declared.item.ItemAt.{ItemAt}

-- ---- named classes

-- the class of this name
abbrev pub class_named : List ℕ → Option ClassName
class_named name =
    if bytes_eq name (codes "alnum") then Some Alnum
    else (if bytes_eq name (codes "alpha") then Some Alpha
    else (if bytes_eq name (codes "blank") then Some Blank
    else (if bytes_eq name (codes "cntrl") then Some Cntrl
    else (if bytes_eq name (codes "digit") then Some Digit
    else (if bytes_eq name (codes "graph") then Some Graph
    else (if bytes_eq name (codes "lower") then Some Lower
    else (if bytes_eq name (codes "print") then Some Print
    else (if bytes_eq name (codes "punct") then Some Punct
    else (if bytes_eq name (codes "space") then Some Space
    else (if bytes_eq name (codes "upper") then Some Upper
    else (if bytes_eq name (codes "xdigit") then Some Xdigit else None)))))))))))

-- The bytes of a named class, all of them ASCII. White space is tab, line feed, carriage return and space.
abbrev pub named_has : ClassName → ℕ → Bool
named_has Alnum byte = is_ascii_alphanumeric byte
named_has Alpha byte = is_ascii_alphabetic byte
named_has Blank byte = byte == 32 || byte == 9
named_has Cntrl byte = is_ascii_control byte
named_has Digit byte = is_ascii_digit byte
named_has Graph byte = is_ascii_graphic byte
named_has Lower byte = is_ascii_lowercase byte
named_has Print byte = byte == 32 || is_ascii_graphic byte
named_has Punct byte = is_ascii_punctuation byte
named_has Space byte = (byte == 32 || byte == 9) || (byte == 10 || byte == 13)
named_has Upper byte = is_ascii_uppercase byte
named_has Xdigit byte = is_ascii_hexdigit byte

-- ---- matching

-- a byte as it is compared: an ASCII letter in lower case, if case is ignored
abbrev pub compared : Bool → ℕ → ℕ
compared ignore_case byte = if ignore_case then to_ascii_lowercase byte else byte

-- a compared byte passes the test; if case is ignored, in lower or in upper case
abbrev pub in_some_case : Bool → (ℕ → Bool) → ℕ → Bool
in_some_case ignore_case test byte = test byte || (ignore_case && test (to_ascii_uppercase byte))

-- The item has a compared byte. A member is not changed, so one in upper case has nothing if case is ignored. A range that goes
-- down has nothing.
abbrev pub item_has : Bool → ℕ → Item → Bool
item_has ignore_case byte (Member c) = byte == c
item_has ignore_case byte (Range x y) = in_some_case ignore_case (λ b. nat_le x b && nat_le b y) byte
item_has ignore_case byte (Named name) = in_some_case ignore_case (named_has name) byte

-- The class matches the byte of a path: some item has it, or none does if the class is negated. No class matches `/`.
unfoldable pub class_matches : Bool → Bool → List Item → ℕ → Bool
class_matches ignore_case negated items byte = not (byte == 47) && differ negated (list_any (item_has ignore_case (compared ignore_case byte)) items)

-- ---- reading

-- In what follows, an item comes with the number of bytes that belong to it after its first, and with the byte that a `-` after
-- it makes a range from, if any.
abbrev pub one_item : Item → ℕ → Option ℕ → Option ItemAt
one_item item more last = Some (record { item = item; more = more; last = last })

-- a range from `x` whose end is escaped: the rest after the `\`
abbrev pub escaped_range_at : ℕ → List ℕ → Option ItemAt
escaped_range_at x [] = None
escaped_range_at x (y ∷ cs) = one_item (Range x y) 2 None

-- The item at a `-`, after `x`, followed by these bytes: a range, after which a `-` makes none; but a member before `]`.
abbrev pub hyphen_at : ℕ → List ℕ → Option ItemAt
hyphen_at x [] = None
hyphen_at x (y ∷ cs) = if y == 93 then one_item (Member 45) 0 (Some 45) else (if y == 92 then escaped_range_at x cs else one_item (Range x y) 1 None)

-- The item at a `[:` that the `]` after `body` follows. With a `:` before that `]` it is a named class, and its name has to be
-- among the twelve. Otherwise the `[` is a member.
abbrev pub name_at : List ℕ → Option ItemAt
name_at body = if ends_with 58 body
    then elim (class_named (without_last 58 body)) [ None ↦ None | Some name ↦ one_item (Named name) (length body + 2) None ]
    else one_item (Member 91) 0 (Some 91)

-- the item at a `[` inside a class, followed by these bytes
abbrev pub bracket_at : List ℕ → Option ItemAt
bracket_at [] = one_item (Member 91) 0 (Some 91)
bracket_at (c ∷ cs) = if c == 58
    then elim (position (λ d. d == 93) cs) [ None ↦ None | Some n ↦ name_at (take n cs) ]
    else one_item (Member 91) 0 (Some 91)

-- the item at a `\`, followed by these bytes: the next byte is always a member
abbrev pub escape_at : List ℕ → Option ItemAt
escape_at [] = None
escape_at (c ∷ cs) = one_item (Member c) 1 (Some c)

-- the item at `c` inside a class, followed by `cs`; `last` is the byte before it that a range can begin with
unfoldable pub item_at : Option ℕ → ℕ → List ℕ → Option ItemAt
item_at last c cs =
    if c == 92 then escape_at cs
    else (if c == 91 then bracket_at cs
    else (if c == 45 then elim last [ None ↦ one_item (Member 45) 0 (Some 45) | Some x ↦ hyphen_at x cs ]
    else one_item (Member c) 0 (Some c)))

-- the items of a class, and how many bytes it has with its `]`
abbrev pub ClassAt : Type 0
ClassAt = List Item × ℕ

-- The items of a class from here up to its `]`, and the number of bytes. The first n bytes belong to the item before them. The
-- first byte of a class is always an item; after it a `]` closes the class. `None` if no `]` does, or an item cannot be read.
unfoldable pub class_items : ℕ → Bool → Option ℕ → List ℕ → Option ClassAt
class_items n first last [] = None
class_items (suc n) first last (c ∷ cs) = option_map (λ class. (class.0, suc class.1)) (class_items n first last cs)
class_items zero first last (c ∷ cs) = if c == 93 && not first then Some ([], 1)
    else elim (item_at last c cs) [ None ↦ None | Some i ↦ option_map (λ class. (i.item ∷ class.0, suc class.1)) (class_items i.more false i.last cs) ]
