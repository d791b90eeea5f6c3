-- What answers about the globs of a list, or the rules of a file, tell.
use Rattle.std.proofs.Common.{◌≡◌, ◌∙◌, ◌≤◌, ◌<◌, ℕ, List, ap, arith, length, refl, slice_index_or, subst, sym}
use Rattle.std.proofs.lemmas.List.{length-map}
use Rattle.std.proofs.lemmas.Option.{slice_get-map, slice_get_read}
use Rattle.std.specs.Prelude.{Some, map, option_map, slice_get}
use Rattle.glob_relations.specs.declared.rules.RuleReachability.{RuleReachability}
use Rattle.glob_relations.specs.declared.unused.Reachability.{Reachability}
use Rattle.c_objects.specs.Relations.{Told, told_reachability, told_rule_reachability}

told_by_all : {X : Type 0} (of : X → Told) (all : List X) (i : ℕ) (r : X) (t : Told) → i < length all → r ≡ slice_index_or all i r → t ≡ of r → slice_get (map of all) i ≡ Some t
told_by_all of all i r t lt e is = subst (λ (x : Told). slice_get (map of all) i ≡ Some x) (sym is) (slice_get-map of all i ∙ ap (option_map of) (slice_get_read all (length all) i r refl lt e))

pub told_at : (all : List Reachability) (i : ℕ) (r : Reachability) (t : Told) → i < length all → r ≡ slice_index_or all i r → t ≡ told_reachability r → slice_get (map told_reachability all) i ≡ Some t
told_at = told_by_all told_reachability

pub none_told_past : (all : List Reachability) (i : ℕ) → length all ≤ i → length (map told_reachability all) ≤ i
none_told_past all i le = omega (arith, length-map all told_reachability)

pub rule_told_at : (all : List RuleReachability) (i : ℕ) (r : RuleReachability) (t : Told) → i < length all → r ≡ slice_index_or all i r → t ≡ told_rule_reachability r → slice_get (map told_rule_reachability all) i ≡ Some t
rule_told_at = told_by_all told_rule_reachability

pub no_rule_told_past : (all : List RuleReachability) (i : ℕ) → length all ≤ i → length (map told_rule_reachability all) ≤ i
no_rule_told_past all i le = omega (arith, length-map all told_rule_reachability)
