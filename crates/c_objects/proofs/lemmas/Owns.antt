-- What is there of an option that is not `None`.
use Rattle.std.proofs.Common.{◌≡◌, true≢false, refl, sym}
use Rattle.std.specs.Prelude.{Option, None, Some, IsSome}

pub given : {A : Type 0} (o : Option A) → IsSome o → (x : A) × (o ≡ Some x)
given None t = absurd (true≢false (sym t))
given (Some x) t = (x, refl)
