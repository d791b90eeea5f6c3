-- The items of a class, as a loop reads them.
use Rattle.std.proofs.Common.{◌≡◌, ℕ, zero, suc, ◌+◌, ◌-◌, ◌≤◌, Bool, true, false, not, ◌&&◌, ◌==◌, List, [], ◌∷◌, ◌++◌, length, drop, Option, Some, None, refl, sym, ◌∙◌, ap, arith, append_assoc, append-nil, length-drop}
use Rattle.std.proofs.lemmas.List.{nil_from_length}
use Rattle.std.specs.Option.{option_map}
use Rattle.ignore_pattern.specs.declared.item.Item.{Item}
use Rattle.ignore_pattern.specs.declared.item.ItemAt.{ItemAt}
use Rattle.ignore_pattern.specs.Classes.{ClassAt, item_at, class_items}

-- another byte before the others
abbrev with_byte : Option ClassAt → Option ClassAt
with_byte o = option_map (λ class. (class.0, suc class.1)) o

-- and a byte that begins an item
abbrev with_item : Item → Option ClassAt → Option ClassAt
with_item item o = option_map (λ class. (item ∷ class.0, suc class.1)) o

-- items and a number of bytes that were read, and then the rest of a class
abbrev pub before : List Item → ℕ → Option ClassAt → Option ClassAt
before items n None = None
before items n (Some class) = Some (items ++ class.0, n + class.1)

pub one_more : (n : ℕ) (o : Option ClassAt) → with_byte (before [] n o) ≡ before [] (suc n) o
one_more n None = refl
one_more n (Some class) =
    let same : suc (n + class.1) ≡ suc n + class.1 = omega arith in
    ap (λ (k : ℕ). let o : Option ClassAt = Some (class.0, k) in o) same

pub nothing_before : (o : Option ClassAt) → o ≡ before [] zero o
nothing_before None = refl
nothing_before (Some class) =
    let same : class.1 ≡ zero + class.1 = omega arith in
    ap (λ (k : ℕ). let o : Option ClassAt = Some (class.0, k) in o) same

skip : (n : ℕ) (first : Bool) (last : Option ℕ) (cs : List ℕ) → n ≤ length cs → class_items n first last cs ≡ before [] n (class_items zero first last (drop n cs))
unfolding class_items
skip zero first last cs h = nothing_before (class_items zero first last cs)
skip (suc n) first last [] h = absurd (omega arith)
skip (suc n) first last (c ∷ cs) h = ap with_byte (skip n first last cs (omega arith)) ∙ one_more n (class_items zero first last (drop n cs))

regroup : (items : List Item) (item : Item) (n more : ℕ) (o : Option ClassAt) → before (items ++ item ∷ []) (n + (more + 1)) o ≡ before items n (with_item item (before [] more o))
regroup items item n more None = refl
regroup items item n more (Some class) =
    let same : (n + (more + 1)) + class.1 ≡ n + suc (more + class.1) = omega arith in
    ap (λ (k : ℕ). let o : Option ClassAt = Some ((items ++ item ∷ []) ++ class.0, k) in o) same
    ∙ ap (λ (l : List Item). let o : Option ClassAt = Some (l, n + suc (more + class.1)) in o) (append_assoc items (item ∷ []) class.0)

-- What a loop keeps: the items of a class, by what it has yet to read.
pub record Reads (all : List ℕ) (items : List Item) (first : Bool) (last : Option ℕ) (rest : List ℕ) (total : Option ClassAt) : Type 0 where
  pub so_far : before items (length all - length rest) (class_items zero first last rest) ≡ total
  pub fits : length rest ≤ length all

pub starts : (all : List ℕ) → Reads all [] true None all (class_items zero true None all)
starts all =
    let none : length all - length all ≡ zero = omega arith in
    record {
      so_far = ap (λ (k : ℕ). before [] k (class_items zero true None all)) none ∙ sym (nothing_before (class_items zero true None all));
      fits = omega arith;
    }

module _ (all : List ℕ) (items : List Item) (first : Bool) (last : Option ℕ) (rest : List ℕ) (total : Option ClassAt) (s : Reads all items first last rest total) where
  pub ends : length rest ≡ 0 → None ≡ total
  unfolding class_items
  ends nil = ap (λ (l : List ℕ). before items (length all - length rest) (class_items zero first last l)) (sym (nil_from_length rest nil)) ∙ s.so_far

  module _ (c : ℕ) (cs : List ℕ) (cell : rest ≡ c ∷ cs) where
    by_cell : before items (length all - length rest) (class_items zero first last (c ∷ cs)) ≡ total
    by_cell = ap (λ (l : List ℕ). before items (length all - length rest) (class_items zero first last l)) (sym cell) ∙ s.so_far

    pub closed : (c == 93 && not first) ≡ true → Some (items, length all - length cs) ≡ total
    unfolding class_items
    closed closes =
        let at : length all - length cs ≡ (length all - length rest) + 1 = let h = s.fits in omega (arith, ap length cell) in
        ap (λ (k : ℕ). let o : Option ClassAt = Some (items, k) in o) at
        ∙ ap (λ (l : List Item). let o : Option ClassAt = Some (l, (length all - length rest) + 1) in o) (sym (append-nil items)) ∙ (rw closes at by_cell)

    pub unreadable : (c == 93 && not first) ≡ false → None ≡ item_at last c cs → None ≡ total
    unfolding class_items
    unreadable stays none = rw (stays, sym none) at by_cell

    pub goes_on : (i : ItemAt) (new : List Item) (next : List ℕ) → (c == 93 && not first) ≡ false → Some i ≡ item_at last c cs → i.more ≤ length cs
        → new ≡ items ++ i.item ∷ [] → next ≡ drop i.more cs → Reads all new false i.last next total
    unfolding class_items
    goes_on i new next stays some within pushed cut =
        let at : length all - length (drop i.more cs) ≡ (length all - length rest) + (i.more + 1) = let h = s.fits in omega (arith, ap length cell, length-drop i.more cs) in
        let step : before (items ++ i.item ∷ []) (length all - length (drop i.more cs)) (class_items zero false i.last (drop i.more cs)) ≡ total =
        ap (λ (k : ℕ). before (items ++ i.item ∷ []) k (class_items zero false i.last (drop i.more cs))) at
        ∙ regroup items i.item (length all - length rest) i.more (class_items zero false i.last (drop i.more cs))
        ∙ ap (λ (o : Option ClassAt). before items (length all - length rest) (with_item i.item o)) (sym (skip i.more false i.last cs within))
        ∙ (rw (stays, sym some) at by_cell) in
        record {
          so_far = rw (pushed, cut) step;
          fits = let h = s.fits in rw cut (omega (arith, ap length cell, length-drop i.more cs));
        }
