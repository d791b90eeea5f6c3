-- The whole call: what was read and written.
use Rattle.std.proofs.Common.{◌≡◌, ℕ, take, List, [], ◌++◌, length, Bool, false, ◌||◌, ap, ◌∙◌, sym, subst, append_assoc, append-nil, Option, Result, Ok, Err, MatchResult, IfOk, IfErr}
use Rattle.std.specs.Io.KnownBytes.{Appends, Consumes, IsAtEnd}
use Rattle.std.proofs.KnownBytes.{Appends-trans, Consumes-nil, Consumes-trans}
use Rattle.std.proofs.lemmas.List.{take_at}
use Rattle.globset.specs.GlobMatches.{GlobValue}
use Rattle.globsift.specs.Output.{sifted, has_match, SiftSucceeds, SiftFails}
use Rattle.globsift.specs.inner.Sifting.{FailsMidway, Handles}
use Rattle.globsift.specs.declared.sifting.fault.SiftFault.{SiftFault}
use Rattle.globsift.specs.declared.sifting.fault.SiftFault.TheVariants.{Read, Write, OutOfMemory}
use Rattle.globsift.proofs.lemmas.Output.{sifted-append, has_match-append}
use Rattle.globsift.proofs.lemmas.Written.{FailsMidway-memory}
use Rattle.globsift.proofs.lemmas.Handling.{Handles-rest_is, Handles-rest_fails}

-- an error of a step is an error of the whole call
pub SiftFails-fails : (globs : List GlobValue) (numbered : Bool) (bytes : List ℕ) (r r' w w' : Option (List ℕ)) (f : SiftFault) → Consumes r r' bytes → FailsMidway w w' (sifted globs numbered bytes) f → SiftFails globs numbered r r' w w' f
SiftFails-fails globs numbered bytes r r' w w' Read p h = absurd h
SiftFails-fails globs numbered bytes r r' w w' Write p h = (bytes, p, h)
SiftFails-fails globs numbered bytes r r' w w' OutOfMemory p h = (bytes, p, h)

-- memory ran out before anything was read
pub SiftFails-start : (globs : List GlobValue) (numbered : Bool) (r w : Option (List ℕ)) (f : SiftFault) → f ≡ OutOfMemory → SiftFails globs numbered r r w w f
SiftFails-start globs numbered r w f e = SiftFails-fails globs numbered [] r r w w f (Consumes-nil r) (FailsMidway-memory w (sifted globs numbered []) f e)

-- the rest after the last LF was handled, and all is written
pub SiftSucceeds-end : (globs : List GlobValue) (numbered : Bool) (bytes front rest : List ℕ) (r r1 r2 w w1 w2 : Option (List ℕ)) (h1 : List ℕ) (o1 b : Bool) → Consumes r r1 bytes → Consumes r1 r2 front →
    front ≡ [] → IsAtEnd r2 → Handles globs numbered bytes rest w w1 [] h1 false o1 → Appends w1 w2 (h1 ++ sifted globs numbered rest) → b ≡ (o1 || has_match globs rest) → SiftSucceeds globs numbered r r2 w w2 b
SiftSucceeds-end globs numbered bytes front rest r r1 r2 w w1 w2 h1 o1 b p q none end m a is = (
  bytes,
  subst (λ (l : List ℕ). Consumes r r2 l) (ap (λ (l : List ℕ). bytes ++ l) none ∙ append-nil bytes) (Consumes-trans r r1 r2 bytes front p q),
  end,
  subst (λ (l : List ℕ). Appends w w2 l)
      (sym (append_assoc m.out h1 (sifted globs numbered rest)) ∙ ap (λ (l : List ℕ). l ++ sifted globs numbered rest) m.output ∙ sym (sifted-append globs numbered m.whole rest m.whole_lines) ∙ ap (sifted globs numbered) (sym m.bytes_are))
      (Appends-trans w w1 w2 m.out (h1 ++ sifted globs numbered rest) m.written a),
  is ∙ ap (λ c. c || has_match globs rest) m.any_is ∙ sym (has_match-append globs m.whole rest m.whole_lines) ∙ ap (has_match globs) (sym m.bytes_are),
)

-- the bytes that were read by an equal list
pub Consumes-is : (a b : Option (List ℕ)) (xs ys : List ℕ) → xs ≡ ys → Consumes a b ys → Consumes a b xs
Consumes-is a b xs ys e p = subst (λ (l : List ℕ). Consumes a b l) (sym e) p

-- the result of the rest at the end, and so of the whole call
pub end_result : (globs : List GlobValue) (numbered : Bool) (bytes front rest rest' : List ℕ) (r r1 r2 w w1 w2 : Option (List ℕ)) (h1 : List ℕ) (o1 : Bool) (result : Result Bool SiftFault) →
    Consumes r r1 bytes → Consumes r1 r2 front → front ≡ [] → IsAtEnd r2 → Handles globs numbered bytes rest w w1 [] h1 false o1 → rest' ≡ rest →
    MatchResult result (λ b. Appends w1 w2 (h1 ++ sifted globs numbered rest') × (b ≡ (o1 || has_match globs rest'))) (FailsMidway w1 w2 (h1 ++ sifted globs numbered rest')) →
    MatchResult result (SiftSucceeds globs numbered r r2 w w2) (SiftFails globs numbered r r2 w w2)
end_result globs numbered bytes front rest rest' r r1 r2 w w1 w2 h1 o1 (Ok b) p q none end m is a =
    SiftSucceeds-end globs numbered bytes front rest' r r1 r2 w w1 w2 h1 o1 b p q none end (Handles-rest_is globs numbered bytes rest rest' w w1 [] h1 false o1 is m) a.0 a.1
end_result globs numbered bytes front rest rest' r r1 r2 w w1 w2 h1 o1 (Err f) p q none end m is a =
    SiftFails-fails globs numbered bytes r r2 w w2 f
    (Consumes-is r r2 bytes (bytes ++ front) (sym (ap (λ (l : List ℕ). bytes ++ l) none ∙ append-nil bytes)) (Consumes-trans r r1 r2 bytes front p q))
    (Handles-rest_fails globs numbered bytes rest' w w1 w2 [] h1 false o1 f (Handles-rest_is globs numbered bytes rest rest' w w1 [] h1 false o1 is m) a)

-- what holds of a result, by its outcome
pub ok_part : {T E : Type 0} (P : T → Type 0) (Q : E → Type 0) (result : Result T E) → MatchResult result P Q → IfOk result P
ok_part P Q (Ok x) h = h
ok_part P Q (Err e) h = tt

pub err_part : {T E : Type 0} (P : T → Type 0) (Q : E → Type 0) (result : Result T E) → MatchResult result P Q → IfErr result Q
err_part P Q (Ok x) h = tt
err_part P Q (Err e) h = h

-- what a read left in the vector that it read into
pub read_back : (len : ℕ) (buf tail d : List ℕ) → length buf ≡ len → d ≡ take len (buf ++ tail) → d ≡ buf
read_back len buf tail d e p = p ∙ take_at buf tail len e
