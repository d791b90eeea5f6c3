-- Arguments around `--set`.
use Rattle.std.proofs.Common.{◌≡◌, ℕ, List, [], ◌∷◌, ◌++◌, Option, length, map, nat_eq, not, refl, ap, sym, String, string_bytes}
use Rattle.std.proofs.Math.Dec.{eqb-suc-zero}
use Rattle.std.specs.Option.{option_map}
use Rattle.std.specs.declared.alloc.Global.{Global}
use Rattle.globsift.specs.Command.{has_argument}

-- these arguments before those around `--set`
abbrev pub put_before : List (List ℕ) → Option (List (List ℕ) × List (List ℕ)) → Option (List (List ℕ) × List (List ℕ))
put_before before r = option_map (λ p. (before ++ p.0, p.1)) r

-- there is an argument
pub some_argument : (arguments : List (String Global)) → has_argument (map string_bytes arguments) ≡ not (nat_eq (length arguments) 0)
some_argument [] = refl
some_argument (argument ∷ arguments) = sym (ap not (eqb-suc-zero (length arguments)))
