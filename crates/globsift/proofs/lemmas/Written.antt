-- Written bytes, pending bytes and errors.
use Rattle.std.proofs.Common.{◌≡◌, ℕ, List, [], ◌++◌, ap, ◌∙◌, sym, subst, append_assoc, append-nil, refl, Option}
use Rattle.std.specs.Io.KnownBytes.{Appends}
use Rattle.std.proofs.KnownBytes.{Appends-nil, Appends-trans}
use Rattle.globsift.specs.Output.{AppendsPrefix}
use Rattle.globsift.specs.inner.Sifting.{FailsMidway, WritesAllBut}
use Rattle.globsift.specs.declared.sifting.fault.SiftFault.{SiftFault}
use Rattle.globsift.specs.declared.sifting.fault.SiftFault.TheVariants.{Read, Write, OutOfMemory}

-- nothing was written
pub AppendsPrefix-none : (w : Option (List ℕ)) (bytes : List ℕ) → AppendsPrefix w w bytes
AppendsPrefix-none w bytes = ([], bytes, Appends-nil w, refl)

-- a prefix of some bytes is a prefix of those and more
pub AppendsPrefix-more : (w w' : Option (List ℕ)) (a b : List ℕ) → AppendsPrefix w w' a → AppendsPrefix w w' (a ++ b)
AppendsPrefix-more w w' a b p = (p.0, p.1 ++ b, p.2, sym (append_assoc p.0 p.1 b) ∙ ap (λ l. l ++ b) p.3)

-- some bytes were written, and then a prefix of the others
pub AppendsPrefix-after : (w w1 w2 : Option (List ℕ)) (h1 out a b : List ℕ) → Appends w w1 out → out ++ h1 ≡ a → AppendsPrefix w1 w2 (h1 ++ b) → AppendsPrefix w w2 (a ++ b)
AppendsPrefix-after w w1 w2 h1 out a b p e q = (
  out ++ q.0,
  q.1,
  Appends-trans w w1 w2 out q.0 p q.2,
  append_assoc out q.0 q.1 ∙ ap (λ l. out ++ l) q.3 ∙ sym (append_assoc out h1 b) ∙ ap (λ l. l ++ b) e,
)

-- an error over some bytes is one over those and more
pub FailsMidway-more : (w w' : Option (List ℕ)) (a b : List ℕ) (f : SiftFault) → FailsMidway w w' a f → FailsMidway w w' (a ++ b) f
FailsMidway-more w w' a b Read h = absurd h
FailsMidway-more w w' a b Write h = AppendsPrefix-more w w' a b h
FailsMidway-more w w' a b OutOfMemory h = AppendsPrefix-more w w' a b h

-- some bytes were written, and then came an error
pub FailsMidway-after : (w w1 w2 : Option (List ℕ)) (h1 out a b : List ℕ) (f : SiftFault) → Appends w w1 out → out ++ h1 ≡ a → FailsMidway w1 w2 (h1 ++ b) f → FailsMidway w w2 (a ++ b) f
FailsMidway-after w w1 w2 h1 out a b Read p e h = absurd h
FailsMidway-after w w1 w2 h1 out a b Write p e h = AppendsPrefix-after w w1 w2 h1 out a b p e h
FailsMidway-after w w1 w2 h1 out a b OutOfMemory p e h = AppendsPrefix-after w w1 w2 h1 out a b p e h

-- memory ran out before anything was written
pub FailsMidway-memory : (w : Option (List ℕ)) (a : List ℕ) (f : SiftFault) → f ≡ OutOfMemory → FailsMidway w w a f
FailsMidway-memory w a Read e = cc
FailsMidway-memory w a Write e = cc
FailsMidway-memory w a OutOfMemory e = AppendsPrefix-none w a

-- some output is pending, and an error came while it was written
pub FailsMidway-pending : (w w1 w2 : Option (List ℕ)) (h1 a : List ℕ) (f : SiftFault) → WritesAllBut w w1 h1 a → FailsMidway w1 w2 h1 f → FailsMidway w w2 a f
FailsMidway-pending w w1 w2 h1 a f p q =
    subst (λ (l : List ℕ). FailsMidway w w2 l f) (append-nil a)
    (FailsMidway-after w w1 w2 h1 p.0 a [] f p.1 p.2 (subst (λ (l : List ℕ). FailsMidway w1 w2 l f) (sym (append-nil h1)) q))

-- all pending output was written
pub Appends-drained : (w w1 w2 : Option (List ℕ)) (h1 h2 a : List ℕ) → WritesAllBut w w1 h1 a → WritesAllBut w1 w2 h2 h1 → h2 ≡ [] → Appends w w2 a
Appends-drained w w1 w2 h1 h2 a p q e =
    subst (λ (l : List ℕ). Appends w w2 l) (sym (append-nil (p.0 ++ q.0)) ∙ append_assoc p.0 q.0 [] ∙ ap (λ (l : List ℕ). p.0 ++ (q.0 ++ l)) (sym e) ∙ ap (λ (l : List ℕ). p.0 ++ l) q.2 ∙ p.2)
    (Appends-trans w w1 w2 p.0 q.0 p.1 q.1)

-- all was written
pub AppendsPrefix-all : (w w' : Option (List ℕ)) (a : List ℕ) → Appends w w' a → AppendsPrefix w w' a
AppendsPrefix-all w w' a p = (a, [], p, append-nil a)
