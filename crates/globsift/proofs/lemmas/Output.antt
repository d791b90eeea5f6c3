-- Output of lines.
use Rattle.std.proofs.Common.{◌≡◌, ℕ, List, [], ◌∷◌, ◌++◌, Bool, true, false, ◌||◌, cond, ap, ◌∙◌, sym, append_assoc, append-nil, refl}
use Rattle.std.proofs.Math.Bool.{or-false}
use Rattle.std.proofs.lemmas.Bool.{or_right}
use Rattle.std.specs.List.{list_any, flat_map}
use Rattle.std.proofs.lemmas.List.Concat.{flat_map-append}
use Rattle.std.proofs.lemmas.List.Folds.{list_any-append}
use Rattle.globsift.specs.Lines.{lines, is_lf}
use Rattle.globset.specs.Answer.{matching_indexes}
use Rattle.globset.specs.GlobMatches.{GlobValue}
use Rattle.globsift.specs.Output.{is_matched, index_column, line_output, sifted, has_match}
use Rattle.globsift.specs.inner.Sifting.{IsWholeLines}
use Rattle.globsift.proofs.lemmas.Lines.{lines_line, lines_rest}

-- the output for no bytes
pub sifted-nil : (globs : List GlobValue) (numbered : Bool) → sifted globs numbered [] ≡ []
unfolding sifted
sifted-nil globs numbered = refl

-- no bytes have no line
pub has_match-nil : (globs : List GlobValue) → has_match globs [] ≡ false
unfolding has_match
has_match-nil globs = refl

-- the output for whole lines, and then for more
pub sifted-append : (globs : List GlobValue) (numbered : Bool) (a b : List ℕ) → IsWholeLines a → sifted globs numbered (a ++ b) ≡ sifted globs numbered a ++ sifted globs numbered b
unfolding sifted
sifted-append globs numbered a b p = ap (flat_map (line_output globs numbered)) (p.lines_go_on b) ∙ flat_map-append (line_output globs numbered) (lines a) (lines b)

-- whole lines, and then more
pub has_match-append : (globs : List GlobValue) (a b : List ℕ) → IsWholeLines a → has_match globs (a ++ b) ≡ (has_match globs a || has_match globs b)
unfolding has_match
has_match-append globs a b p = ap (list_any (is_matched globs)) (p.lines_go_on b) ∙ list_any-append (is_matched globs) (lines a) (lines b)

-- the output for a line with its LF
pub sifted-line : (globs : List GlobValue) (numbered : Bool) (line : List ℕ) → list_any is_lf line ≡ false → sifted globs numbered (line ++ 10 ∷ []) ≡ line_output globs numbered line
unfolding sifted
sifted-line globs numbered line e = ap (flat_map (line_output globs numbered)) (lines_line line [] e) ∙ append-nil (line_output globs numbered line)

-- a line with its LF
pub has_match-line : (globs : List GlobValue) (line : List ℕ) → list_any is_lf line ≡ false → has_match globs (line ++ 10 ∷ []) ≡ is_matched globs line
unfolding has_match
has_match-line globs line e = ap (list_any (is_matched globs)) (lines_line line [] e) ∙ or-false (is_matched globs line)

-- the output for a rest with no LF
pub sifted-rest : (globs : List GlobValue) (numbered : Bool) (x : ℕ) (xs : List ℕ) → list_any is_lf (x ∷ xs) ≡ false → sifted globs numbered (x ∷ xs) ≡ line_output globs numbered (x ∷ xs)
unfolding sifted
sifted-rest globs numbered x xs e = ap (flat_map (line_output globs numbered)) (lines_rest x xs e) ∙ append-nil (line_output globs numbered (x ∷ xs))

-- a rest with no LF
pub has_match-rest : (globs : List GlobValue) (x : ℕ) (xs : List ℕ) → list_any is_lf (x ∷ xs) ≡ false → has_match globs (x ∷ xs) ≡ is_matched globs (x ∷ xs)
unfolding has_match
has_match-rest globs x xs e = ap (list_any (is_matched globs)) (lines_rest x xs e) ∙ or-false (is_matched globs (x ∷ xs))

-- a line that is not matched
pub line_output-none : (globs : List GlobValue) (numbered : Bool) (line : List ℕ) → is_matched globs line ≡ false → line_output globs numbered line ≡ []
unfolding line_output
line_output-none globs numbered line e = ap (λ b. cond b (index_column numbered (matching_indexes globs line) ++ line ++ 10 ∷ []) []) e

-- a line that is matched
pub line_output-some : (globs : List GlobValue) (numbered : Bool) (line : List ℕ) → is_matched globs line ≡ true → line_output globs numbered line ≡ index_column numbered (matching_indexes globs line) ++ line ++ 10 ∷ []
unfolding line_output
line_output-some globs numbered line e = ap (λ b. cond b (index_column numbered (matching_indexes globs line) ++ line ++ 10 ∷ []) []) e

-- nothing was appended for a line that is not matched
pub line_skipped : (globs : List GlobValue) (numbered : Bool) (line pending pending' : List ℕ) (o o' b : Bool) → b ≡ is_matched globs line → o' ≡ o → pending' ≡ pending → b ≡ false →
    (pending' ≡ pending ++ line_output globs numbered line) × (o' ≡ (o || is_matched globs line))
line_skipped globs numbered line pending pending' o o' b is p e f = (
  e ∙ sym (ap (λ l. pending ++ l) (line_output-none globs numbered line (sym is ∙ f)) ∙ append-nil pending),
  p ∙ sym (ap (λ m. o || m) (sym is ∙ f) ∙ or-false o),
)

-- a line that is matched was appended after its index column, with LF
pub line_pushed : (globs : List GlobValue) (numbered : Bool) (line pending h1 h2 h3 : List ℕ) (o b : Bool) → b ≡ is_matched globs line → h1 ≡ pending ++ index_column numbered (matching_indexes globs line) → b ≡ true →
    h2 ≡ h1 ++ line → h3 ≡ h2 ++ 10 ∷ [] → (h3 ≡ pending ++ line_output globs numbered line) × (true ≡ (o || is_matched globs line))
line_pushed globs numbered line pending h1 h2 h3 o b is e f p q = (
  q ∙ ap (λ l. l ++ 10 ∷ []) (p ∙ ap (λ l. l ++ line) e ∙ append_assoc pending (index_column numbered (matching_indexes globs line)) line)
      ∙ append_assoc pending (index_column numbered (matching_indexes globs line) ++ line) (10 ∷ []) ∙ ap (λ l. pending ++ l) (sym (line_output-some globs numbered line (sym is ∙ f))),
  sym (or_right o (is_matched globs line) (sym is ∙ f)),
)
