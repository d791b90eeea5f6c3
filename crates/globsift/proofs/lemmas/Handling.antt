-- Handled bytes: whole lines and a rest.
use Rattle.std.proofs.Common.{◌≡◌, ℕ, ◌+◌, ◌-◌, take, drop, List, [], ◌∷◌, ◌++◌, length, Bool, false, ◌||◌, ap, ◌∙◌, sym, subst, append_assoc, append-nil, refl, Option, None, Some}
use Rattle.std.proofs.Math.Bool.{or_assoc, or-false}
use Rattle.std.specs.List.{list_any}
use Rattle.std.specs.Io.KnownBytes.{Appends}
use Rattle.std.proofs.KnownBytes.{Appends-nil, Appends-trans}
use Rattle.std.proofs.lemmas.List.{take_rest}
use Rattle.memchr.specs.Find.{IsFirstByte, is_byte}
use Rattle.globsift.specs.Lines.{is_lf, through_last_lf}
use Rattle.globset.specs.GlobMatches.{GlobValue}
use Rattle.globsift.specs.Output.{is_matched, line_output, sifted, has_match}
use Rattle.globsift.specs.inner.Sifting.{FailsMidway, WritesAllBut, Handles}
use Rattle.globsift.specs.declared.sifting.fault.SiftFault.{SiftFault}
use Rattle.globsift.specs.declared.sifting.fault.SiftFault.TheVariants.{OutOfMemory}
use Rattle.globsift.proofs.lemmas.Lines.{found_lf, not_found, last_rest, IsWholeLines-nil, IsWholeLines-line, IsWholeLines-append}
use Rattle.globsift.proofs.lemmas.Output.{sifted-nil, has_match-nil, sifted-append, has_match-append, sifted-line, has_match-line}
use Rattle.globsift.proofs.lemmas.Written.{FailsMidway-more, FailsMidway-after, FailsMidway-memory, Appends-drained}

-- no whole line yet
pub Handles-start : (globs : List GlobValue) (numbered : Bool) (rest : List ℕ) (w : Option (List ℕ)) (h : List ℕ) (o : Bool) → list_any is_lf rest ≡ false → Handles globs numbered rest rest w w h h o o
Handles-start globs numbered rest w h o e = record {
  whole = [];
  bytes_are = refl;
  no_lf = e;
  whole_lines = IsWholeLines-nil;
  out = [];
  written = Appends-nil w;
  output = sym (ap (λ l. h ++ l) (sifted-nil globs numbered) ∙ append-nil h);
  any_is = sym (ap (λ b. o || b) (has_match-nil globs) ∙ or-false o);
}

-- one line with its LF
pub Handles-line : (globs : List GlobValue) (numbered : Bool) (line : List ℕ) (w w' : Option (List ℕ)) (h h' : List ℕ) (o o' : Bool) → list_any is_lf line ≡ false →
    WritesAllBut w w' h' (h ++ line_output globs numbered line) → o' ≡ (o || is_matched globs line) → Handles globs numbered (line ++ 10 ∷ []) [] w w' h h' o o'
Handles-line globs numbered line w w' h h' o o' e p q = record {
  whole = line ++ 10 ∷ [];
  bytes_are = sym (append-nil (line ++ 10 ∷ []));
  no_lf = refl;
  whole_lines = IsWholeLines-line line e;
  out = p.0;
  written = p.1;
  output = p.2 ∙ ap (λ l. h ++ l) (sym (sifted-line globs numbered line e));
  any_is = q ∙ ap (λ b. o || b) (sym (has_match-line globs line e));
}

-- some bytes were handled, and then their rest with more
pub Handles-trans : (globs : List GlobValue) (numbered : Bool) (bytes mid more rest : List ℕ) (w w1 w2 : Option (List ℕ)) (h h1 h2 : List ℕ) (o o1 o2 : Bool) →
    Handles globs numbered bytes mid w w1 h h1 o o1 → Handles globs numbered (mid ++ more) rest w1 w2 h1 h2 o1 o2 → Handles globs numbered (bytes ++ more) rest w w2 h h2 o o2
Handles-trans globs numbered bytes mid more rest w w1 w2 h h1 h2 o o1 o2 p q = record {
  whole = p.whole ++ q.whole;
  bytes_are = ap (λ l. l ++ more) p.bytes_are ∙ append_assoc p.whole mid more ∙ ap (λ l. p.whole ++ l) q.bytes_are ∙ sym (append_assoc p.whole q.whole rest);
  no_lf = q.no_lf;
  whole_lines = IsWholeLines-append p.whole q.whole p.whole_lines q.whole_lines;
  out = p.out ++ q.out;
  written = Appends-trans w w1 w2 p.out q.out p.written q.written;
  output = append_assoc p.out q.out h2 ∙ ap (λ l. p.out ++ l) q.output ∙ sym (append_assoc p.out h1 (sifted globs numbered q.whole))
      ∙ ap (λ l. l ++ sifted globs numbered q.whole) p.output ∙ append_assoc h (sifted globs numbered p.whole) (sifted globs numbered q.whole)
      ∙ ap (λ l. h ++ l) (sym (sifted-append globs numbered p.whole q.whole p.whole_lines));
  any_is = q.any_is ∙ ap (λ b. b || has_match globs q.whole) p.any_is ∙ or_assoc o (has_match globs p.whole) (has_match globs q.whole)
      ∙ ap (λ b. o || b) (sym (has_match-append globs p.whole q.whole p.whole_lines));
}

-- some bytes were handled, and then came an error over their rest with more
pub Handles-fails : (globs : List GlobValue) (numbered : Bool) (bytes mid more : List ℕ) (w w1 w2 : Option (List ℕ)) (h h1 : List ℕ) (o o1 : Bool) (f : SiftFault) →
    Handles globs numbered bytes mid w w1 h h1 o o1 → FailsMidway w1 w2 (h1 ++ sifted globs numbered (mid ++ more)) f → FailsMidway w w2 (h ++ sifted globs numbered (bytes ++ more)) f
Handles-fails globs numbered bytes mid more w w1 w2 h h1 o o1 f p q =
    let all : (h ++ sifted globs numbered p.whole) ++ sifted globs numbered (mid ++ more) ≡ h ++ sifted globs numbered (bytes ++ more) =
    append_assoc h (sifted globs numbered p.whole) (sifted globs numbered (mid ++ more))
    ∙ ap (λ l. h ++ l) (sym (sifted-append globs numbered p.whole (mid ++ more) p.whole_lines) ∙ ap (sifted globs numbered) (sym (append_assoc p.whole mid more) ∙ ap (λ l. l ++ more) (sym p.bytes_are))) in
    subst (λ (l : List ℕ). FailsMidway w w2 l f) all (FailsMidway-after w w1 w2 h1 p.out (h ++ sifted globs numbered p.whole) (sifted globs numbered (mid ++ more)) f p.written p.output q)

-- an error at a line, and more bytes after the line
pub FailsMidway-line : (globs : List GlobValue) (numbered : Bool) (line more : List ℕ) (w w' : Option (List ℕ)) (h : List ℕ) (f : SiftFault) → list_any is_lf line ≡ false →
    FailsMidway w w' (h ++ line_output globs numbered line) f → FailsMidway w w' (h ++ sifted globs numbered ((line ++ 10 ∷ []) ++ more)) f
FailsMidway-line globs numbered line more w w' h f e q =
    let all : (h ++ line_output globs numbered line) ++ sifted globs numbered more ≡ h ++ sifted globs numbered ((line ++ 10 ∷ []) ++ more) =
    append_assoc h (line_output globs numbered line) (sifted globs numbered more)
    ∙ ap (λ l. h ++ l) (ap (λ l. l ++ sifted globs numbered more) (sym (sifted-line globs numbered line e)) ∙ sym (sifted-append globs numbered (line ++ 10 ∷ []) more (IsWholeLines-line line e))) in
    subst (λ (l : List ℕ). FailsMidway w w' l f) all (FailsMidway-more w w' (h ++ line_output globs numbered line) (sifted globs numbered more) f q)

-- the loop over the lines handled one more
pub lines_step : (globs : List GlobValue) (numbered : Bool) (bytes seen rest : List ℕ) (i : ℕ) (w w1 w2 : Option (List ℕ)) (h h1 h2 : List ℕ) (o o1 o2 : Bool) → bytes ≡ seen ++ rest →
    Handles globs numbered seen [] w w1 h h1 o o1 → IsFirstByte (is_byte 10) rest (Some i) → WritesAllBut w1 w2 h2 (h1 ++ line_output globs numbered (take i rest)) → o2 ≡ (o1 || is_matched globs (take i rest)) →
    (x : List ℕ) × (bytes ≡ x ++ take (length rest - (i + 1)) (drop (i + 1) rest)) × Handles globs numbered x [] w w2 h h2 o o2
lines_step globs numbered bytes seen rest i w w1 w2 h h1 h2 o o1 o2 e m r p q =
    let f = found_lf rest i r in (
      seen ++ (take i rest ++ 10 ∷ []),
      e ∙ ap (λ (l : List ℕ). seen ++ l) f.2 ∙ sym (append_assoc seen (take i rest ++ 10 ∷ []) (drop (i + 1) rest))
          ∙ ap (λ (l : List ℕ). (seen ++ (take i rest ++ 10 ∷ [])) ++ l) (sym (take_rest rest (i + 1))),
      Handles-trans globs numbered seen [] (take i rest ++ 10 ∷ []) [] w w1 w2 h h1 h2 o o1 o2 m (Handles-line globs numbered (take i rest) w1 w2 h1 h2 o1 o2 f.1 p q),
    )

-- no LF is left: the loop over the lines ends
pub lines_end : (globs : List GlobValue) (numbered : Bool) (bytes seen rest : List ℕ) (r : Option ℕ) (w w1 : Option (List ℕ)) (h h1 : List ℕ) (o o1 : Bool) → bytes ≡ seen ++ rest →
    Handles globs numbered seen [] w w1 h h1 o o1 → r ≡ None → IsFirstByte (is_byte 10) rest r → Handles globs numbered bytes rest w w1 h h1 o o1
lines_end globs numbered bytes seen rest r w w1 h h1 o o1 e m none f =
    subst (λ (l : List ℕ). Handles globs numbered l rest w w1 h h1 o o1) (sym e)
    (Handles-trans globs numbered seen [] rest rest w w1 w1 h h1 h1 o o1 o1 m (Handles-start globs numbered rest w1 h1 o1 (not_found rest r none f)))

-- an error at one of the lines
pub lines_fail : (globs : List GlobValue) (numbered : Bool) (bytes seen rest : List ℕ) (i : ℕ) (w w1 w2 : Option (List ℕ)) (h h1 : List ℕ) (o o1 : Bool) (f : SiftFault) → bytes ≡ seen ++ rest →
    Handles globs numbered seen [] w w1 h h1 o o1 → IsFirstByte (is_byte 10) rest (Some i) → FailsMidway w1 w2 (h1 ++ line_output globs numbered (take i rest)) f → FailsMidway w w2 (h ++ sifted globs numbered bytes) f
lines_fail globs numbered bytes seen rest i w w1 w2 h h1 o o1 f e m r q =
    let p = found_lf rest i r in
    subst (λ (l : List ℕ). FailsMidway w w2 (h ++ sifted globs numbered l) f) (sym e)
    (Handles-fails globs numbered seen [] rest w w1 w2 h h1 o o1 f m
    (subst (λ (l : List ℕ). FailsMidway w1 w2 (h1 ++ sifted globs numbered l) f) (sym p.2) (FailsMidway-line globs numbered (take i rest) (drop (i + 1) rest) w1 w2 h1 f p.1 q)))

-- memory ran out after some lines
pub Handles-memory : (globs : List GlobValue) (numbered : Bool) (bytes rest : List ℕ) (w w1 : Option (List ℕ)) (h h1 : List ℕ) (o o1 : Bool) (f : SiftFault) →
    Handles globs numbered bytes rest w w1 h h1 o o1 → f ≡ OutOfMemory → FailsMidway w w1 (h ++ sifted globs numbered bytes) f
Handles-memory globs numbered bytes rest w w1 h h1 o o1 f m e =
    subst (λ (l : List ℕ). FailsMidway w w1 (h ++ sifted globs numbered l) f) (append-nil bytes)
    (Handles-fails globs numbered bytes rest [] w w1 w1 h h1 o o1 f m (FailsMidway-memory w1 (h1 ++ sifted globs numbered (rest ++ [])) f e))

-- an error while the pending output was written
pub Handles-pending_fails : (globs : List GlobValue) (numbered : Bool) (bytes rest : List ℕ) (w w1 w2 : Option (List ℕ)) (h h1 : List ℕ) (o o1 : Bool) (f : SiftFault) →
    Handles globs numbered bytes rest w w1 h h1 o o1 → FailsMidway w1 w2 h1 f → FailsMidway w w2 (h ++ sifted globs numbered bytes) f
Handles-pending_fails globs numbered bytes rest w w1 w2 h h1 o o1 f m q =
    subst (λ (l : List ℕ). FailsMidway w w2 (h ++ sifted globs numbered l) f) (append-nil bytes)
    (Handles-fails globs numbered bytes rest [] w w1 w2 h h1 o o1 f m (FailsMidway-more w1 w2 h1 (sifted globs numbered (rest ++ [])) f q))

-- an error at the rest after the last LF
pub Handles-rest_fails : (globs : List GlobValue) (numbered : Bool) (bytes rest : List ℕ) (w w1 w2 : Option (List ℕ)) (h h1 : List ℕ) (o o1 : Bool) (f : SiftFault) →
    Handles globs numbered bytes rest w w1 h h1 o o1 → FailsMidway w1 w2 (h1 ++ sifted globs numbered rest) f → FailsMidway w w2 (h ++ sifted globs numbered bytes) f
Handles-rest_fails globs numbered bytes rest w w1 w2 h h1 o o1 f m q =
    subst (λ (l : List ℕ). FailsMidway w w2 (h ++ sifted globs numbered l) f) (append-nil bytes)
    (Handles-fails globs numbered bytes rest [] w w1 w2 h h1 o o1 f m (subst (λ (l : List ℕ). FailsMidway w1 w2 (h1 ++ sifted globs numbered l) f) (sym (append-nil rest)) q))

-- all output for the bytes up to the last LF is written
pub Handles-drained : (globs : List GlobValue) (numbered : Bool) (bytes rest : List ℕ) (w w1 w2 : Option (List ℕ)) (h1 h2 : List ℕ) (o o1 : Bool) →
    Handles globs numbered bytes rest w w1 [] h1 o o1 → WritesAllBut w1 w2 h2 h1 → h2 ≡ [] → Appends w w2 (sifted globs numbered (through_last_lf bytes))
Handles-drained globs numbered bytes rest w w1 w2 h1 h2 o o1 m p e =
    let last : through_last_lf bytes ≡ m.whole =
    ap through_last_lf m.bytes_are ∙ m.whole_lines.last_goes_on rest ∙ ap (λ (l : List ℕ). m.whole ++ l) (last_rest rest m.no_lf) ∙ append-nil m.whole in
    subst (λ (l : List ℕ). Appends w w2 (sifted globs numbered l)) (sym last) (Appends-drained w w1 w2 h1 h2 (sifted globs numbered m.whole) (m.out, m.written, m.output) p e)

-- nothing is read and nothing is pending
pub Handles-begin : (globs : List GlobValue) (numbered : Bool) (rest h : List ℕ) (w : Option (List ℕ)) (o : Bool) → rest ≡ [] → h ≡ [] → o ≡ false →
    Handles globs numbered [] rest w w [] h false o
Handles-begin globs numbered rest h w o e f p =
    subst (λ (b : Bool). Handles globs numbered [] rest w w [] h false b) (sym p)
    (subst (λ (l : List ℕ). Handles globs numbered [] l w w [] h false false) (sym e)
    (subst (λ (l : List ℕ). Handles globs numbered [] [] w w [] l false false) (sym f) (Handles-start globs numbered [] w [] false refl)))

-- the rest by an equal list
pub Handles-rest_is : (globs : List GlobValue) (numbered : Bool) (bytes rest rest' : List ℕ) (w w1 : Option (List ℕ)) (h h1 : List ℕ) (o o1 : Bool) → rest' ≡ rest →
    Handles globs numbered bytes rest w w1 h h1 o o1 → Handles globs numbered bytes rest' w w1 h h1 o o1
Handles-rest_is globs numbered bytes rest rest' w w1 h h1 o o1 e m = subst (λ (l : List ℕ). Handles globs numbered bytes l w w1 h h1 o o1) (sym e) m

-- what was pending was written, or a part of it
pub Handles-written : (globs : List GlobValue) (numbered : Bool) (bytes rest : List ℕ) (w w1 w2 : Option (List ℕ)) (h h1 h2 : List ℕ) (o o1 : Bool) →
    Handles globs numbered bytes rest w w1 h h1 o o1 → WritesAllBut w1 w2 h2 h1 → Handles globs numbered bytes rest w w2 h h2 o o1
Handles-written globs numbered bytes rest w w1 w2 h h1 h2 o o1 m p = record {
  whole = m.whole;
  bytes_are = m.bytes_are;
  no_lf = m.no_lf;
  whole_lines = m.whole_lines;
  out = m.out ++ p.0;
  written = Appends-trans w w1 w2 m.out p.0 m.written p.1;
  output = append_assoc m.out p.0 h2 ∙ ap (λ l. m.out ++ l) p.2 ∙ m.output;
  any_is = m.any_is;
}
