-- Examples of small regular expressions: texts with their trees, a text that has none, and what trees denote.
use Rattle.std.specs.Prelude.{◌≡◌, ◌==◌, ℕ, List, [], ◌∷◌, ◌++◌, true, false, codes}
use Rattle.std.proofs.Common.{refl, inl, inr, true≢false, sym, ◌∙◌, ap, subst, drop, arith}
use Rattle.glob_text.specs.SmallRegex.{single, span, any_byte, byte, class_of, group_of, once, repeated, optional, Atom, Item, no_item, item, Row, no_row, row, Expression, expression, is_special, class_of_has, SpellsByte, SpellsEntry, SpellsAtom, SpellsItem, SpellsRow, SpellsOthers, Spells, no_piece, one_more, DenotesAtom, DenotesItem, DenotesRow, Denotes}
use Rattle.std.proofs.lemmas.Bool.{eq-eqb}
use Rattle.std.proofs.lemmas.List.{append_cancel_right}

cons_none : (x : List ℕ) (d : ℕ) (ds : List ℕ) → [] ≡ x ++ d ∷ ds → ⊥
cons_none [] d ds e = cc
cons_none (a ∷ rest) d ds e = cc

-- ---- the texts of a byte

as_itself : SpellsByte 97 (codes "a")
as_itself = inl (refl, omega arith, refl)

slash_as_itself : SpellsByte 47 (codes "/")
slash_as_itself = inl (refl, omega arith, refl)

after_a_backslash : SpellsByte 42 (codes "\\*")
after_a_backslash = inr (inl (refl, refl))

by_two_digits : SpellsByte 0xC3 (codes "\\xc3")
by_two_digits = inr (inr (99, 51, refl, refl, refl, refl))

ascii_by_two_digits : SpellsByte 42 (codes "\\x2a")
ascii_by_two_digits = inr (inr (50, 97, refl, refl, refl, refl))

-- a special character does not match itself
not_special_as_itself : (c : ℕ) → SpellsByte c (codes "*") → ⊥
not_special_as_itself c (inl (is, low, plain)) = let e : 42 ≡ c = cc in absurd (true≢false (ap is_special e ∙ plain))
not_special_as_itself c (inr (inl (is, special))) = cc
not_special_as_itself c (inr (inr (h, l, is, hh, hl, value))) = cc

-- and a backslash before a letter is not the letter
not_letter_after_a_backslash : SpellsByte 97 (codes "\\a") → ⊥
not_letter_after_a_backslash (inl (is, low, plain)) = cc
not_letter_after_a_backslash (inr (inl (is, special))) = absurd (true≢false (sym special))
not_letter_after_a_backslash (inr (inr (h, l, is, hh, hl, value))) = cc

-- ---- whole texts, with the parts that they are cut into

nothing : Spells (expression false no_item) (codes "(?-u)^$")
nothing = (codes "", refl, refl)

insensitive : Spells (expression true no_item) (codes "(?-u)(?i)^$")
insensitive = (codes "", refl, refl)

any_byte_once : Spells (expression false (item (once any_byte) no_item)) (codes "(?-u)^.$")
any_byte_once = (codes ".", refl, (codes ".", codes "", refl, refl, refl))

any_byte_repeated : Spells (expression false (item (repeated any_byte) no_item)) (codes "(?-u)^.*$")
any_byte_repeated = (codes ".*", refl, (codes ".*", codes "", refl, (codes ".", refl, refl), refl))

letter_optional : Spells (expression true (item (optional (byte 97)) no_item)) (codes "(?-u)(?i)^a?$")
letter_optional = (codes "a?", refl, (codes "a?", codes "", refl, (codes "a", refl, as_itself), refl))

two_items : Spells (expression false (item (once (byte 97)) (item (once (byte 42)) no_item))) (codes "(?-u)^a\\*$")
two_items = (codes "a\\*", refl, (codes "a", codes "\\*", refl, as_itself, (codes "\\*", codes "", refl, after_a_backslash, refl)))

-- a negated class of a range and a byte
class : Spells (expression false (item (once (class_of true (span 97 122 ∷ single 45 ∷ []))) no_item)) (codes "(?-u)^[^a-z\\-]$")
class = (codes "[^a-z\\-]", refl, (codes "[^a-z\\-]", codes "", refl, (codes "a-z\\-", refl, (codes "a-z", codes "\\-", refl, letters, (codes "\\-", codes "", refl, hyphen, refl)), omega arith), refl))
  where
    letters : SpellsEntry (span 97 122) (codes "a-z")
    letters = (codes "a", codes "z", refl, as_itself, inl (refl, omega arith, refl))

    hyphen : SpellsEntry (single 45) (codes "\\-")
    hyphen = inr (inl (refl, refl))

-- a group of three rows, the second of which has no item
group : Spells (expression false (item (once (group_of (item (once (byte 97)) no_item) (row no_item (row (item (repeated any_byte) no_item) no_row)))) no_item)) (codes "(?-u)^(?:a||.*)$")
group = (codes "(?:a||.*)", refl, (codes "(?:a||.*)", codes "", refl, (codes "a", codes "||.*", refl, (codes "a", codes "", refl, as_itself, refl), others), refl))
  where
    last : SpellsRow (item (repeated any_byte) no_item) (codes ".*")
    last = (codes ".*", codes "", refl, (codes ".", refl, refl), refl)

    others : SpellsOthers (row no_item (row (item (repeated any_byte) no_item) no_row)) (codes "||.*")
    others = (codes "", codes "|.*", refl, refl, (codes ".*", codes "", refl, last, refl))

-- ---- a text with no tree

-- an atom has a text, and it does not begin with `*`
no_atom_of_nothing : (a : Atom) → SpellsAtom a [] → ⊥
no_atom_of_nothing any_byte is = cc
no_atom_of_nothing (byte c) (inl (is, low, plain)) = cc
no_atom_of_nothing (byte c) (inr (inl (is, special))) = cc
no_atom_of_nothing (byte c) (inr (inr (h, l, is, hh, hl, value))) = cc
no_atom_of_nothing (class_of negated es) (u, is, entries, some) = cc
no_atom_of_nothing (group_of r rs) (u, v, is, first, others) = cc

same_heads : {c d : ℕ} {cs ds : List ℕ} → c ∷ cs ≡ d ∷ ds → c ≡ d
same_heads is = cc

same_tails : {c d : ℕ} {cs ds : List ℕ} → c ∷ cs ≡ d ∷ ds → cs ≡ ds
same_tails is = cc

other_heads : (c d : ℕ) (cs ds : List ℕ) → (c == d) ≡ false → c ∷ cs ≡ d ∷ ds → ⊥
other_heads c d cs ds other is = true≢false (sym (eq-eqb c d (same_heads is)) ∙ other)

no_atom_of_a_star : (a : Atom) → SpellsAtom a (codes "*") → ⊥
no_atom_of_a_star any_byte is = other_heads 42 46 [] [] refl is
no_atom_of_a_star (byte c) h = not_special_as_itself c h
no_atom_of_a_star (class_of negated es) (u, is, entries, some) = other_heads 42 91 [] _ refl is
no_atom_of_a_star (group_of r rs) (u, v, is, first, others) = other_heads 42 40 [] _ refl is

no_item_of_nothing : (i : Item) → SpellsItem i [] → ⊥
no_item_of_nothing (once a) h = no_atom_of_nothing a h
no_item_of_nothing (repeated a) (u, is, h) = cons_none u 42 [] is
no_item_of_nothing (optional a) (u, is, h) = cons_none u 63 [] is

no_item_of_a_star : (i : Item) → SpellsItem i (codes "*") → ⊥
no_item_of_a_star (once a) h = no_atom_of_a_star a h
no_item_of_a_star (repeated a) ([], is, h) = no_atom_of_nothing a h
no_item_of_a_star (repeated a) (x ∷ xs, is, h) = cons_none xs 42 [] (same_tails is)
no_item_of_a_star (optional a) ([], is, h) = other_heads 42 63 [] [] refl is
no_item_of_a_star (optional a) (x ∷ xs, is, h) = cons_none xs 63 [] (same_tails is)

no_row_of_a_star : (r : Row) → SpellsRow r (codes "*") → ⊥
no_row_of_a_star no_item is = cc
no_row_of_a_star (item i r) ([], v, cut, h, rest) = no_item_of_nothing i h
no_row_of_a_star (item i r) (x ∷ xs, v, cut, h, rest) =
    let nil : xs ≡ [] = front_nil xs v (same_tails cut) in
    no_item_of_a_star i (subst (λ c. SpellsItem i (c ∷ [])) (sym (same_heads cut)) (subst (λ l. SpellsItem i (x ∷ l)) nil h))
  where
    front_nil : (xs v : List ℕ) → [] ≡ xs ++ v → xs ≡ []
    front_nil [] v e = refl
    front_nil (y ∷ ys) v e = absurd cc

-- `*` needs an item before it
star_of_nothing : (x : Expression) → Spells x (codes "(?-u)^*$") → ⊥
star_of_nothing (expression true r) (u, is, h) = other_heads 94 40 _ _ refl (ap (drop 5) is)
star_of_nothing (expression false r) (u, is, h) =
    let row_is : codes "*" ≡ u = append_cancel_right (codes "*") u (codes "$") (ap (drop 6) is) in
    no_row_of_a_star r (subst (SpellsRow r) (sym row_is) h)

-- ---- what is denoted

line_feed : DenotesAtom false any_byte (10 ∷ [])
line_feed = (10, refl)

-- a letter is equal in both cases, if the flag says so
other_case : DenotesAtom true (byte 97) (codes "A")
other_case = (65, refl, refl)

not_other_case : DenotesAtom false (byte 97) (codes "A") → ⊥
not_other_case (c, is, same) = let e : 65 ≡ c = cc in absurd (true≢false (sym same ∙ ap (λ d. d == 97) (sym e)))

-- a class gets the other case of its letters first, and is negated then
not_in_the_rest : DenotesAtom true (class_of true (single 97 ∷ [])) (codes "A") → ⊥
not_in_the_rest (c, is, has) = let e : 65 ≡ c = cc in absurd (true≢false (sym has ∙ ap (λ d. class_of_has true true (single 97 ∷ []) d) (sym e)))

in_the_rest : DenotesAtom true (class_of true (single 97 ∷ [])) (codes "b")
in_the_rest = (98, refl, refl)

repeated_twice : DenotesItem false (repeated any_byte) (10 ∷ 11 ∷ [])
repeated_twice = one_more (10 ∷ []) (11 ∷ []) (10 ∷ 11 ∷ []) refl (10, refl) (one_more (11 ∷ []) [] (11 ∷ []) refl (11, refl) no_piece)

optional_left_out : DenotesItem false (optional (byte 97)) []
optional_left_out = inl refl

second_row : DenotesAtom false (group_of (item (once (byte 97)) no_item) (row no_item no_row)) []
second_row = inr (inl refl)

-- `^` and `$` hold a row to the whole list
not_a_part : DenotesRow false (item (once (byte 97)) no_item) (codes "ab") → ⊥
not_a_part (x, y, cut, (c, is, same), nil) = let e : codes "ab" ≡ (c ∷ []) ++ [] = cut ∙ ap (λ l. l ++ y) is ∙ ap (λ l. (c ∷ []) ++ l) nil in cc

-- and the numbers of the list are bytes
not_a_byte : Denotes (expression false (item (once any_byte) no_item)) (256 ∷ []) → ⊥
not_a_byte (bytes, h) = absurd (omega (arith, bytes 0 0 (omega arith)))
