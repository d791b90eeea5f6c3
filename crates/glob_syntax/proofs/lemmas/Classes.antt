-- The bytes of ranges.
use Rattle.std.proofs.Common.{◌≡◌, ℕ, Some, ◌+◌, ◌-◌, ◌≤◌, ◌<◌, ◌≢◌, inl, inr, Bool, true, false, ◌&&◌, ◌||◌, List, [], ◌∷◌, ◌++◌, length, take, drop, set, replicate, get_or, slice_index, refl, ap, sym, ◌∙◌, subst, arith}
use Rattle.std.specs.Prelude.{◌==◌, nat_le, nat_lt, if◌then◌else◌, encode_utf8}
use Rattle.std.specs.Char.{to_ascii_lowercase, to_ascii_uppercase}
use Rattle.std.proofs.lemmas.Bool.Decides.{nat_tests, eqb_tells}
use Rattle.std.specs.List.{slice_get}
use Rattle.std.proofs.lemmas.Option.{slice_get-get_or}
use Rattle.std.proofs.lemmas.List.{take_more, take_all, get_or-set_same, get_or-set_other, length-set, get_or-replicate}
use Rattle.std.proofs.Math.Bool.{or_comm}
use Rattle.bit_sets.proofs.lemmas.Booleans.{or_assoc}
use Rattle.glob_syntax.specs.declared.class.Membership.{Membership}
use Rattle.glob_syntax.specs.declared.class.Membership.TheVariants.{Absent, OtherCase, Present}
use Rattle.glob_syntax.specs.ClassBytes.{is_one_of, is_from_last, is_spanned, range_has, ranges_have}
use Rattle.glob_syntax.specs.inner.ClassTable.{membership, membership_in, Shows, Puts, other_case, with_other_case}

or_none : (p q : Bool) → (p || q) ≡ ((p || false) || q)
or_none true q = refl
or_none false q = refl

-- ---- lists of bytes and of ranges, with one more at the end

one_of_push : (byte : ℕ) (bs : List ℕ) (c : ℕ) → is_one_of byte (bs ++ c ∷ []) ≡ (is_one_of byte bs || (byte == c))
one_of_push byte [] c = or_comm (byte == c) false
one_of_push byte (b ∷ bs) c = ap (λ t. (byte == b) || t) (one_of_push byte bs c) ∙ or_assoc (byte == b) (is_one_of byte bs) (byte == c)

ranges_push : (byte : ℕ) (rs : List (ℕ × ℕ)) (r : ℕ × ℕ) → ranges_have (rs ++ r ∷ []) byte ≡ (ranges_have rs byte || range_has r byte)
ranges_push byte [] r = or_comm (range_has r byte) false
ranges_push byte (s ∷ rs) r =
    ap (λ t. range_has s byte || t) (ranges_push byte rs r) ∙ or_assoc (range_has s byte) (ranges_have rs byte) (range_has r byte)

from_last_push : (byte : ℕ) (bs : List ℕ) (last upper : ℕ) → is_from_last byte (bs ++ last ∷ []) upper ≡ (is_one_of byte bs || (nat_le last byte && nat_le byte upper))
from_last_push byte [] last upper = refl
from_last_push byte (b ∷ []) last upper = or_none (byte == b) (nat_le last byte && nat_le byte upper)
from_last_push byte (b ∷ d ∷ bs) last upper =
    ap (λ t. (byte == b) || t) (from_last_push byte (d ∷ bs) last upper) ∙ or_assoc (byte == b) (is_one_of byte (d ∷ bs)) (nat_le last byte && nat_le byte upper)

-- by the list's last byte
pub from_last_is : (byte : ℕ) (bs : List ℕ) (upper : ℕ) → 1 ≤ length bs → is_from_last byte bs upper
    ≡ (is_one_of byte (take (length bs - 1) bs) || (nat_le (slice_index bs (length bs - 1)) byte && nat_le byte upper))
from_last_is byte bs upper some =
    let i : ℕ = length bs - 1 in
    let within : i < length bs = omega arith in
    let whole : bs ≡ take i bs ++ slice_index bs i ∷ [] = sym (take_all (i + 1) bs (omega arith)) ∙ take_more bs i 0 within in
    ap (λ l. is_from_last byte l upper) whole ∙ from_last_push byte (take i bs) (slice_index bs i) upper

pub one_of_more : (byte : ℕ) (bs : List ℕ) (i : ℕ) → i < length bs → is_one_of byte (take (i + 1) bs) ≡ (is_one_of byte (take i bs) || (byte == slice_index bs i))
one_of_more byte bs i within = ap (λ l. is_one_of byte l) (take_more bs i 0 within) ∙ one_of_push byte (take i bs) (slice_index bs i)

pub ranges_more : (byte : ℕ) (rs : List (ℕ × ℕ)) (i : ℕ) (d : ℕ × ℕ) → i < length rs → ranges_have (take (i + 1) rs) byte ≡ (ranges_have (take i rs) byte || range_has (get_or rs i d) byte)
ranges_more byte rs i d within = ap (λ l. ranges_have l byte) (take_more rs i d within) ∙ ranges_push byte (take i rs) (get_or rs i d)

-- ---- tables that bytes are put into

shows_same : (has other : ℕ → Bool) (table : List Membership) → ((b : ℕ) → has b ≡ other b) → Shows has table → Shows other table
shows_same has other table same shows = λ b below. shows b below ∙ same_membership b
  where
    same_membership : (b : ℕ) → membership_in has b ≡ membership_in other b
    same_membership b = rw (same b, same (to_ascii_lowercase b), same (to_ascii_uppercase b)) refl

pub puts_same : (one more : ℕ → Bool) (a b : List Membership) → Puts one a b → ((x : ℕ) → more x ≡ one x) → Puts more a b
puts_same one more a b puts same = λ has shows.
    shows_same (λ x. has x || one x) (λ x. has x || more x) b (λ x. ap (λ t. has x || t) (sym (same x))) (puts has shows)

-- bytes are put, and then more
pub puts_both : (one two more : ℕ → Bool) (a b c : List Membership) → Puts one a b → Puts two b c → ((x : ℕ) → more x ≡ (one x || two x)) → Puts more a c
puts_both one two more a b c first second same = λ has shows.
    shows_same (λ x. (has x || one x) || two x) (λ x. has x || more x) c
    (λ x. sym (or_assoc (has x) (one x) (two x)) ∙ ap (λ t. has x || t) (sym (same x)))
    (second (λ x. has x || one x) (first has shows))

-- ---- one byte is put

of_three : Bool → Bool → Bool → Membership
of_three p l u = if p then Present else (if l || u then OtherCase else Absent)

same_three : (p l u : Bool) → of_three (p || false) (l || false) (u || false) ≡ of_three p l u
unfolding of_three
same_three p l u = rw (or_comm p false, or_comm l false, or_comm u false) refl

other_three : (p l u x y : Bool) → (x || y) ≡ true → with_other_case (of_three p l u) ≡ of_three (p || false) (l || x) (u || y)
unfolding of_three
other_three true l u x y h = refl
other_three false true u x y h = refl
other_three false false true true y h = refl
other_three false false true false y h = refl
other_three false false false true y h = refl
other_three false false false false y h = rw h refl

other_below : (byte : ℕ) → byte < 256 → other_case byte < 256
other_below byte below = grind (arith, nat_tests)

lower_apart : (b byte : ℕ) → b ≢ byte → b ≢ other_case byte → (to_ascii_lowercase b == byte) ≡ false
lower_apart b byte apart other = grind (arith, nat_tests)

upper_apart : (b byte : ℕ) → b ≢ byte → b ≢ other_case byte → (to_ascii_uppercase b == byte) ≡ false
upper_apart b byte apart other = grind (arith, nat_tests)

meets : (byte : ℕ) → other_case byte ≢ byte → ((to_ascii_lowercase (other_case byte) == byte) || (to_ascii_uppercase (other_case byte) == byte)) ≡ true
meets byte apart = grind (arith, nat_tests)

or_true : (p : Bool) → (p || true) ≡ true
or_true p = or_comm p true

equal_to_itself : (byte : ℕ) → (byte == byte) ≡ true
equal_to_itself byte = grind (arith, nat_tests)

present : (has : ℕ → Bool) (byte : ℕ) → membership_in (λ x. has x || (x == byte)) byte ≡ Present
present has byte = rw (equal_to_itself byte, or_true (has byte)) refl

other_member : (has : ℕ → Bool) (byte : ℕ) → other_case byte ≢ byte
    → with_other_case (membership_in has (other_case byte)) ≡ membership_in (λ x. has x || (x == byte)) (other_case byte)
unfolding of_three
other_member has byte apart =
    let o : ℕ = other_case byte in
    let self : (o == byte) ≡ false = grind (arith, nat_tests) in
    let same = other_three (has o) (has (to_ascii_lowercase o)) (has (to_ascii_uppercase o)) (to_ascii_lowercase o == byte) (to_ascii_uppercase o == byte) (meets byte apart) in
    rw self same

apart_member : (has : ℕ → Bool) (b byte : ℕ) → b ≢ byte → b ≢ other_case byte → membership_in has b ≡ membership_in (λ x. has x || (x == byte)) b
unfolding of_three
apart_member has b byte apart other =
    let self : (b == byte) ≡ false = grind (arith, nat_tests) in
    rw (self, lower_apart b byte apart other, upper_apart b byte apart other) (sym (same_three (has b) (has (to_ascii_lowercase b)) (has (to_ascii_uppercase b))))

pub puts_one : (old : List Membership) (byte : ℕ) → length old ≡ 256 → byte < 256
    → Puts (λ b. b == byte) old (set (set old (other_case byte) (with_other_case (get_or old (other_case byte) Absent))) byte Present)
puts_one old byte len within = λ has shows b below.
    let other : ℕ = other_case byte in
    let kept : Membership = with_other_case (get_or old other Absent) in
    let middle : List Membership = set old other kept in
    let has_more : ℕ → Bool = λ x. has x || (x == byte) in
    let middle_len : length middle ≡ 256 = length-set old other kept ∙ len in
    elim (eqb_tells b byte) [
      | inl same ↦
          subst (λ x. get_or (set middle byte Present) x Absent ≡ membership_in has_more x) (sym same.1)
          (get_or-set_same middle byte Present Absent (omega arith) ∙ sym (present has byte))
      | inr apart ↦
          get_or-set_other middle byte b Present Absent apart.1
          ∙ elim (eqb_tells b other) [
            | inl same ↦
                subst (λ x. get_or middle x Absent ≡ membership_in has_more x) (sym same.1)
                (get_or-set_same old other kept Absent (omega (arith, other_below byte within))
                ∙ ap with_other_case (shows other (other_below byte within))
                ∙ other_member has byte (λ e. apart.1 (same.1 ∙ e)))
            | inr beside ↦
                get_or-set_other old other b kept Absent beside.1 ∙ shows b below ∙ apart_member has b byte apart.1 beside.1
          ]
    ]

-- ---- the loops

-- no range, and no byte
pub shows_nothing : Shows (λ b. ranges_have [] b) (replicate 256 Absent)
shows_nothing = λ b below. get_or-replicate 256 b Absent Absent below

pub span_more : (low byte : ℕ) (b : ℕ) → low ≤ byte → (nat_le low b && nat_lt b (byte + 1)) ≡ ((nat_le low b && nat_lt b byte) || (b == byte))
span_more low byte b above = grind (arith, nat_tests)

pub span_end : (low byte high : ℕ) (b : ℕ) → low ≤ byte → byte ≡ high → (nat_le low b && nat_le b high) ≡ ((nat_le low b && nat_lt b byte) || (b == byte))
span_end low byte high b above last = grind (arith, nat_tests)

pub span_empty : (low byte high : ℕ) (b : ℕ) → byte ≡ low → high < low → (nat_le low b && nat_le b high) ≡ (nat_le low b && nat_lt b byte)
span_empty low byte high b stays none = grind (arith, nat_tests)

spanned : (byte : ℕ) (first second : List ℕ) → 1 ≤ length second
    → is_spanned byte first second ≡ (is_from_last byte first (slice_index second 0) || is_one_of byte (drop 1 second))
spanned byte first [] some = absurd (omega arith)
spanned byte first (upper ∷ others) some = refl

unequal : (x y : ℕ) → x ≢ y → (x == y) ≡ false
unequal x y apart = grind (arith, nat_tests)

-- a range of two characters, by the first byte of the second one
pub range_is : (byte : ℕ) (r : ℕ × ℕ) → r.0 ≢ r.1 → 1 ≤ length (encode_utf8 r.1)
    → range_has r byte ≡ (is_from_last byte (encode_utf8 r.0) (slice_index (encode_utf8 r.1) 0) || is_one_of byte (drop 1 (encode_utf8 r.1)))
range_is byte (x, y) apart some = rw (unequal x y apart) (spanned byte (encode_utf8 x) (encode_utf8 y) some)

-- one more range
pub shows_more : (rs : List (ℕ × ℕ)) (i : ℕ) (d : ℕ × ℕ) (old new : List Membership) → i < length rs → Shows (λ b. ranges_have (take i rs) b) old → Puts (range_has (get_or rs i d)) old new
    → Shows (λ b. ranges_have (take (i + 1) rs) b) new
shows_more rs i d old new within shows puts =
    shows_same (λ b. ranges_have (take i rs) b || range_has (get_or rs i d) b) (λ b. ranges_have (take (i + 1) rs) b) new (λ b. sym (ranges_more b rs i d within)) (puts (λ b. ranges_have (take i rs) b) shows)

-- all ranges
pub shown : (rs : List (ℕ × ℕ)) (i : ℕ) (table : List Membership) → length rs ≤ i → length table ≡ 256 → Shows (λ b. ranges_have (take i rs) b) table
    → (byte : ℕ) → byte < 256 → slice_get table byte ≡ Some (membership rs byte)
shown rs i table all len shows byte below =
    let whole : Shows (λ b. ranges_have rs b) table = rw (take_all i rs all) at shows in
    slice_get-get_or table byte Absent (omega arith) ∙ ap (λ m. Some m) (whole byte below)
