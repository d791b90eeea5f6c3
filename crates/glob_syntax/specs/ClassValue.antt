-- A class as contracts see it.
use Rattle.std.specs.Prelude.{ℕ, Bool, List}

-- whether it is negated, and its ranges in order
pub record ClassValue : Type 0 where
  pub negated : Bool
  pub ranges : List (ℕ × ℕ)
