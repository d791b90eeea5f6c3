-- Chunks of the input, and the rest at its end.
use Rattle.std.proofs.Common.{◌≡◌, ℕ, ◌+◌, ◌-◌, take, drop, List, [], ◌∷◌, ◌++◌, length, Bool, true, false, ◌||◌, ◌==◌, ap, ◌∙◌, sym, subst, append_assoc, append-nil, arith, Option, None, Some, Result, Ok, Err, MatchResult}
use Rattle.std.proofs.Math.Bool.{or-false}
use Rattle.std.specs.List.{list_any}
use Rattle.std.proofs.KnownBytes.{Appends-nil}
use Rattle.std.proofs.lemmas.List.{take_rest}
use Rattle.std.proofs.lemmas.Bool.{true≢false, eqb-true}
use Rattle.memchr.specs.Find.{IsFirstByte, is_byte}
use Rattle.std.proofs.lemmas.List.Folds.{list_any-append}
use Rattle.globsift.specs.Lines.{is_lf}
use Rattle.globset.specs.GlobMatches.{GlobValue}
use Rattle.globsift.specs.Output.{is_matched, line_output, sifted, has_match}
use Rattle.globsift.specs.inner.Sifting.{FailsMidway, WritesAllBut, Handles}
use Rattle.globsift.specs.declared.sifting.fault.SiftFault.{SiftFault}
use Rattle.globsift.proofs.lemmas.Lines.{found_lf, not_found}
use Rattle.globsift.proofs.lemmas.Output.{sifted-nil, has_match-nil, sifted-rest, has_match-rest}
use Rattle.globsift.proofs.lemmas.Handling.{Handles-start, Handles-line, Handles-trans, Handles-fails, FailsMidway-line}

-- a chunk with no LF is appended to the rest
pub chunk_kept : (globs : List GlobValue) (numbered : Bool) (rest chunk rest' : List ℕ) (r : Option ℕ) (w : Option (List ℕ)) (h : List ℕ) (o : Bool) → list_any is_lf rest ≡ false →
    r ≡ None → IsFirstByte (is_byte 10) chunk r → rest' ≡ rest ++ chunk → Handles globs numbered (rest ++ chunk) rest' w w h h o o
chunk_kept globs numbered rest chunk rest' r w h o e none f is =
    subst (λ (l : List ℕ). Handles globs numbered (rest ++ chunk) l w w h h o o) (sym is)
    (Handles-start globs numbered (rest ++ chunk) w h o
    (list_any-append is_lf rest chunk ∙ ap (λ b. b || list_any is_lf chunk) e ∙ not_found chunk r none f))

-- the line that ends in a chunk has no LF
pub first_line : (rest chunk line : List ℕ) (i : ℕ) → list_any is_lf rest ≡ false → IsFirstByte (is_byte 10) chunk (Some i) → line ≡ rest ++ take i chunk →
    (list_any is_lf line ≡ false) × ((line ++ 10 ∷ []) ++ drop (i + 1) chunk ≡ rest ++ chunk)
first_line rest chunk line i e r is =
    let f = found_lf chunk i r in (
      ap (list_any is_lf) is ∙ list_any-append is_lf rest (take i chunk) ∙ ap (λ b. b || list_any is_lf (take i chunk)) e ∙ f.1,
      ap (λ (l : List ℕ). (l ++ 10 ∷ []) ++ drop (i + 1) chunk) is ∙ ap (λ (l : List ℕ). l ++ drop (i + 1) chunk) (append_assoc rest (take i chunk) (10 ∷ []))
          ∙ append_assoc rest (take i chunk ++ 10 ∷ []) (drop (i + 1) chunk) ∙ ap (λ (l : List ℕ). rest ++ l) (sym f.2),
    )

-- an error at the line that ends in a chunk
pub chunk_fails : (globs : List GlobValue) (numbered : Bool) (rest chunk line : List ℕ) (i : ℕ) (w w' : Option (List ℕ)) (h : List ℕ) (f : SiftFault) → list_any is_lf rest ≡ false →
    IsFirstByte (is_byte 10) chunk (Some i) → line ≡ rest ++ take i chunk → FailsMidway w w' (h ++ line_output globs numbered line) f → FailsMidway w w' (h ++ sifted globs numbered (rest ++ chunk)) f
chunk_fails globs numbered rest chunk line i w w' h f e r is q =
    let p = first_line rest chunk line i e r is in
    subst (λ (l : List ℕ). FailsMidway w w' (h ++ sifted globs numbered l) f) p.1 (FailsMidway-line globs numbered line (drop (i + 1) chunk) w w' h f p.0 q)

-- the line that ends in a chunk was handled, and then the other bytes of the chunk
pub chunk_handled : (globs : List GlobValue) (numbered : Bool) (rest chunk line rest' : List ℕ) (i : ℕ) (w w1 w2 : Option (List ℕ)) (h h1 h2 : List ℕ) (o o1 o2 : Bool) → list_any is_lf rest ≡ false →
    IsFirstByte (is_byte 10) chunk (Some i) → line ≡ rest ++ take i chunk → WritesAllBut w w1 h1 (h ++ line_output globs numbered line) → o1 ≡ (o || is_matched globs line) →
    Handles globs numbered (take (length chunk - (i + 1)) (drop (i + 1) chunk)) rest' w1 w2 h1 h2 o1 o2 → Handles globs numbered (rest ++ chunk) rest' w w2 h h2 o o2
chunk_handled globs numbered rest chunk line rest' i w w1 w2 h h1 h2 o o1 o2 e r is p q m =
    let f = first_line rest chunk line i e r is in
    subst (λ (l : List ℕ). Handles globs numbered l rest' w w2 h h2 o o2) (ap (λ (l : List ℕ). (line ++ 10 ∷ []) ++ l) (take_rest chunk (i + 1)) ∙ f.1)
    (Handles-trans globs numbered (line ++ 10 ∷ []) [] (take (length chunk - (i + 1)) (drop (i + 1) chunk)) rest' w w1 w2 h h1 h2 o o1 o2
    (Handles-line globs numbered line w w1 h h1 o o1 f.0 p q) m)

-- the line that ends in a chunk was handled, and then came an error
pub chunk_fails_later : (globs : List GlobValue) (numbered : Bool) (rest chunk line : List ℕ) (i : ℕ) (w w1 w2 : Option (List ℕ)) (h h1 : List ℕ) (o o1 : Bool) (f : SiftFault) → list_any is_lf rest ≡ false →
    IsFirstByte (is_byte 10) chunk (Some i) → line ≡ rest ++ take i chunk → WritesAllBut w w1 h1 (h ++ line_output globs numbered line) → o1 ≡ (o || is_matched globs line) →
    FailsMidway w1 w2 (h1 ++ sifted globs numbered (take (length chunk - (i + 1)) (drop (i + 1) chunk))) f → FailsMidway w w2 (h ++ sifted globs numbered (rest ++ chunk)) f
chunk_fails_later globs numbered rest chunk line i w w1 w2 h h1 o o1 f e r is p q m =
    let k = first_line rest chunk line i e r is in
    subst (λ (l : List ℕ). FailsMidway w w2 (h ++ sifted globs numbered l) f) (ap (λ (l : List ℕ). (line ++ 10 ∷ []) ++ l) (take_rest chunk (i + 1)) ∙ k.1)
    (Handles-fails globs numbered (line ++ 10 ∷ []) [] (take (length chunk - (i + 1)) (drop (i + 1) chunk)) w w1 w2 h h1 o o1 f
    (Handles-line globs numbered line w w1 h h1 o o1 k.0 p q) m)

-- the result of the bytes after the first LF of a chunk, and so of the chunk
pub chunk_result : {X : Type 0} (globs : List GlobValue) (numbered : Bool) (rest chunk line rest' : List ℕ) (i : ℕ) (w w1 w2 : Option (List ℕ)) (h h1 h2 : List ℕ) (o o1 o2 : Bool) (r : Result X SiftFault) →
    list_any is_lf rest ≡ false → IsFirstByte (is_byte 10) chunk (Some i) → line ≡ rest ++ take i chunk → WritesAllBut w w1 h1 (h ++ line_output globs numbered line) → o1 ≡ (o || is_matched globs line) →
    MatchResult r (λ x. Handles globs numbered (take (length chunk - (i + 1)) (drop (i + 1) chunk)) rest' w1 w2 h1 h2 o1 o2) (FailsMidway w1 w2 (h1 ++ sifted globs numbered (take (length chunk - (i + 1)) (drop (i + 1) chunk)))) →
    MatchResult r (λ x. Handles globs numbered (rest ++ chunk) rest' w w2 h h2 o o2) (FailsMidway w w2 (h ++ sifted globs numbered (rest ++ chunk)))
chunk_result globs numbered rest chunk line rest' i w w1 w2 h h1 h2 o o1 o2 (Ok x) e first is p q m = chunk_handled globs numbered rest chunk line rest' i w w1 w2 h h1 h2 o o1 o2 e first is p q m
chunk_result globs numbered rest chunk line rest' i w w1 w2 h h1 h2 o o1 o2 (Err f) e first is p q m = chunk_fails_later globs numbered rest chunk line i w w1 w2 h h1 o o1 f e first is p q m

-- no bytes are left at the end of the input
pub rest_empty : (globs : List GlobValue) (numbered : Bool) (rest : List ℕ) (b : Bool) (w : Option (List ℕ)) (h : List ℕ) (o : Bool) → b ≡ (length rest == 0) → b ≡ true →
    WritesAllBut w w h (h ++ sifted globs numbered rest) × (o ≡ (o || has_match globs rest))
rest_empty globs numbered [] b w h o e t =
    (([], Appends-nil w, sym (ap (λ (l : List ℕ). h ++ l) (sifted-nil globs numbered) ∙ append-nil h)), sym (ap (λ m. o || m) (has_match-nil globs) ∙ or-false o))
rest_empty globs numbered (x ∷ xs) b w h o e t = let none : length (x ∷ xs) ≡ 0 = eqb-true (length (x ∷ xs)) 0 (sym e ∙ t) in absurd (omega arith)

-- a rest that is not empty is a line
pub rest_filled : (globs : List GlobValue) (numbered : Bool) (rest : List ℕ) (b : Bool) → list_any is_lf rest ≡ false → b ≡ (length rest == 0) → b ≡ false →
    (line_output globs numbered rest ≡ sifted globs numbered rest) × (is_matched globs rest ≡ has_match globs rest)
rest_filled globs numbered [] b f e t = absurd (true≢false (sym e ∙ t))
rest_filled globs numbered (x ∷ xs) b f e t = (sym (sifted-rest globs numbered x xs f), sym (has_match-rest globs x xs f))

-- the rest after the last LF was handled as a line
pub rest_handled : (globs : List GlobValue) (numbered : Bool) (rest : List ℕ) (w w' : Option (List ℕ)) (h h' : List ℕ) (o o' : Bool) → (line_output globs numbered rest ≡ sifted globs numbered rest) × (is_matched globs rest ≡ has_match globs rest) →
    WritesAllBut w w' h' (h ++ line_output globs numbered rest) × (o' ≡ (o || is_matched globs rest)) → WritesAllBut w w' h' (h ++ sifted globs numbered rest) × (o' ≡ (o || has_match globs rest))
rest_handled globs numbered rest w w' h h' o o' e p = ((p.0.0, p.0.1, p.0.2 ∙ ap (λ (l : List ℕ). h ++ l) e.0), p.1 ∙ ap (λ b. o || b) e.1)

-- an error at that line
pub rest_fails : (globs : List GlobValue) (numbered : Bool) (rest : List ℕ) (w w' : Option (List ℕ)) (h : List ℕ) (f : SiftFault) → line_output globs numbered rest ≡ sifted globs numbered rest →
    FailsMidway w w' (h ++ line_output globs numbered rest) f → FailsMidway w w' (h ++ sifted globs numbered rest) f
rest_fails globs numbered rest w w' h f e p = subst (λ (l : List ℕ). FailsMidway w w' (h ++ l) f) e p
