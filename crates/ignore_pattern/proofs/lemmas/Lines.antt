-- The spaces at the end of a line, as a loop finds them.
use Rattle.std.proofs.Common.{◌≡◌, ℕ, ◌-◌, ◌<◌, ◌≤◌, suc, zero, ◌==◌, if◌then◌else◌, List, [], ◌∷◌, ◌++◌, length, take, drop, inl, inr, refl, sym, ◌∙◌, ap, subst, arith, append_assoc}
use Rattle.std.proofs.lemmas.Bool.{eq-eqb, ne_eqb, cases_eq}
use Rattle.ignore_pattern.specs.Lines.{before_kept, without_spaces}

-- What is kept of a line: `kept` bytes if nothing is kept after `at` of them, and else these and what is kept after them.
abbrev pub kept_with : List ℕ → ℕ → ℕ → List ℕ → List ℕ
kept_with line kept at [] = take kept line
kept_with line kept at (x ∷ xs) = take at line ++ x ∷ xs

nothing_yet : (line more : List ℕ) → kept_with line 0 0 more ≡ more
nothing_yet line [] = refl
nothing_yet line (x ∷ xs) = refl

-- one more byte of a line
take_suc : (line : List ℕ) (at c : ℕ) (cs : List ℕ) → drop at line ≡ c ∷ cs → take (suc at) line ≡ take at line ++ c ∷ []
take_suc [] zero c cs e = absurd (cc)
take_suc [] (suc at) c cs e = absurd (cc)
take_suc (x ∷ xs) zero c cs e = ap (λ (l : List ℕ). take 1 l) e
take_suc (x ∷ xs) (suc at) c cs e = ap (λ (l : List ℕ). x ∷ l) (take_suc xs at c cs e)

drop_suc : (line : List ℕ) (at c : ℕ) (cs : List ℕ) → drop at line ≡ c ∷ cs → drop (suc at) line ≡ cs
drop_suc [] zero c cs e = absurd (cc)
drop_suc [] (suc at) c cs e = absurd (cc)
drop_suc (x ∷ xs) zero c cs e = ap (λ (l : List ℕ). drop 1 l) e
drop_suc (x ∷ xs) (suc at) c cs e = drop_suc xs at c cs e

-- a byte that stays, before what is kept after it
stays : (line : List ℕ) (kept at c : ℕ) (cs more : List ℕ) → drop at line ≡ c ∷ cs → kept_with line (suc at) (suc at) more ≡ kept_with line kept at (c ∷ more)
stays line kept at c cs [] e = take_suc line at c cs e
stays line kept at c cs (x ∷ xs) e = ap (λ (l : List ℕ). l ++ x ∷ xs) (take_suc line at c cs e) ∙ append_assoc (take at line) (c ∷ []) (x ∷ xs)

plain : (c : ℕ) (cs : List ℕ) → (c ≡ 92 → length cs < 1) → without_spaces (c ∷ cs) ≡ before_kept c (without_spaces cs)
plain c [] h = refl
plain c (d ∷ cs) h = rw (ne_eqb c 92 (λ e. absurd (omega (arith, h e)))) refl

before_other : (c : ℕ) (more : List ℕ) → (c ≡ 32 → ⊥) → before_kept c more ≡ c ∷ more
before_other c [] n = rw (ne_eqb c 32 n) refl
before_other c (x ∷ xs) n = refl

before_space : (line : List ℕ) (kept at : ℕ) (cs more : List ℕ) → drop at line ≡ 32 ∷ cs → kept_with line kept (suc at) more ≡ kept_with line kept at (before_kept 32 more)
before_space line kept at cs [] e = refl
before_space line kept at cs (x ∷ xs) e = stays line kept at 32 cs (x ∷ xs) e

-- What a loop keeps: what is kept of the line, by what it has yet to see.
pub record Stands (line : List ℕ) (kept : ℕ) (rest total : List ℕ) : Type 0 where
  pub so_far : kept_with line kept (length line - length rest) (without_spaces rest) ≡ total
  pub left : drop (length line - length rest) line ≡ rest
  pub fits : length rest ≤ length line
  pub within : kept ≤ length line

pub starts : (line : List ℕ) → Stands line 0 line (without_spaces line)
starts line =
    let none : length line - length line ≡ 0 = omega arith in
    record {
      so_far = ap (λ (k : ℕ). kept_with line 0 k (without_spaces line)) none ∙ nothing_yet line (without_spaces line);
      left = ap (λ (k : ℕ). drop k line) none;
      fits = omega arith;
      within = omega arith;
    }

module _ (line : List ℕ) (kept : ℕ) (rest total : List ℕ) (s : Stands line kept rest total) where
  module _ (c : ℕ) (cs : List ℕ) (cell : rest ≡ c ∷ cs) where
    next_at : length line - length cs ≡ suc (length line - length rest)
    next_at = let h = s.fits in omega (arith, ap length cell)

    by_cell : kept_with line kept (length line - length rest) (without_spaces (c ∷ cs)) ≡ total
    by_cell = ap (λ (l : List ℕ). kept_with line kept (length line - length rest) (without_spaces l)) (sym cell) ∙ s.so_far

    left_next : drop (length line - length cs) line ≡ cs
    left_next = ap (λ (k : ℕ). drop k line) next_at ∙ drop_suc line (length line - length rest) c cs (s.left ∙ cell)

    fits_next : length cs ≤ length line
    fits_next = let h = s.fits in omega (arith, ap length cell)

    pub after_space : c ≡ 32 → Stands line kept cs total
    after_space e = record {
      so_far =
          ap (λ (k : ℕ). kept_with line kept k (without_spaces cs)) next_at
          ∙ before_space line kept (length line - length rest) cs (without_spaces cs) (s.left ∙ cell ∙ ap (λ (x : ℕ). x ∷ cs) e)
          ∙ ap (kept_with line kept (length line - length rest)) (ap (λ (x : ℕ). before_kept x (without_spaces cs)) (sym e) ∙ sym (plain c cs (λ h. absurd (omega arith)))) ∙ by_cell;
      left = left_next;
      fits = fits_next;
      within = s.within;
    }

    pub after_other : (c ≡ 32 → ⊥) → (c ≡ 92 → length cs < 1) → Stands line (length line - length cs) cs total
    after_other other lone = record {
      so_far =
          ap (λ (k : ℕ). kept_with line k k (without_spaces cs)) next_at
          ∙ stays line kept (length line - length rest) c cs (without_spaces cs) (s.left ∙ cell)
          ∙ ap (kept_with line kept (length line - length rest)) (sym (before_other c (without_spaces cs) other) ∙ sym (plain c cs lone)) ∙ by_cell;
      left = left_next;
      fits = fits_next;
      within = omega arith;
    }

  pub after_pair : (d : ℕ) (cs : List ℕ) → rest ≡ 92 ∷ d ∷ cs → Stands line (length line - length cs) cs total
  after_pair d cs cell =
      let at : length line - length cs ≡ suc (suc (length line - length rest)) = let h = s.fits in omega (arith, ap length cell) in
      let one : drop (suc (length line - length rest)) line ≡ d ∷ cs = drop_suc line (length line - length rest) 92 (d ∷ cs) (s.left ∙ cell) in
      record {
        so_far =
            ap (λ (k : ℕ). kept_with line k k (without_spaces cs)) at
            ∙ stays line (suc (length line - length rest)) (suc (length line - length rest)) d cs (without_spaces cs) one
            ∙ stays line kept (length line - length rest) 92 (d ∷ cs) (d ∷ without_spaces cs) (s.left ∙ cell)
            ∙ by_cell 92 (d ∷ cs) cell;
        left = ap (λ (k : ℕ). drop k line) at ∙ drop_suc line (suc (length line - length rest)) d cs one;
        fits = let h = s.fits in omega (arith, ap length cell);
        within = omega arith;
      }

  after_backslash : (cs : List ℕ) → rest ≡ 92 ∷ cs → Stands line (length line - length (drop 1 cs)) (drop 1 cs) total
  after_backslash [] cell = after_other 92 [] cell (λ e. absurd (omega arith)) (λ e. omega arith)
  after_backslash (d ∷ cs) cell = after_pair d cs cell

  -- one step of the loop, to `next`
  pub space_step : (c : ℕ) (cs next : List ℕ) → rest ≡ c ∷ cs → next ≡ (if c == 92 then drop 1 cs else cs) → c ≡ 32 → Stands line kept next total
  space_step c cs next cell e space =
      let same : next ≡ cs = e ∙ rw (ne_eqb c 92 (λ h. absurd (omega arith))) refl in
      subst (λ (l : List ℕ). Stands line kept l total) (sym same) (after_space c cs cell space)

  pub other_step : (c : ℕ) (cs next : List ℕ) → rest ≡ c ∷ cs → next ≡ (if c == 92 then drop 1 cs else cs) → (c ≡ 32 → ⊥) → Stands line (length line - length next) next total
  other_step c cs next cell e other = elim (cases_eq c 92) [
    | inl same ↦
        let there : next ≡ drop 1 cs = e ∙ rw (eq-eqb c 92 same) refl in
        subst (λ (l : List ℕ). Stands line (length line - length l) l total) (sym there) (after_backslash cs (cell ∙ ap (λ (x : ℕ). x ∷ cs) same))
    | inr differs ↦
        let there : next ≡ cs = e ∙ rw (ne_eqb c 92 differs) refl in
        subst (λ (l : List ℕ). Stands line (length line - length l) l total) (sym there) (after_other c cs cell other (λ h. absurd (differs h)))
  ]
