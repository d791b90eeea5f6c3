-- For proofs by hand: a parameter that is passed by value, of which nothing is left at the return and nothing is said
-- there.
use Prim.Native.Nat.{ℕ}
use mathlib.Core.Path.{◌≡◌, refl}
use mathlib.Core.List.{List, [], ◌∷◌}
use mir.Val.{Val}
use denote.Struct.Members.{Lone}
use lib.Dec.{T}
use seplogic.Ra.Ura.{Ura}
use base.Logic.{via}
use types.Logic.{Logic}
use contract.Lifetimes.{Lfts}
use denote.Exit.{Kept, Last, left}
use denote.Param.Mute.{blank, had}
use denote.Signature.{Slot}
use denote.Triple.Walked.{Goes, stay_dropped}

pub Goes-blank : {M : Type 1} {𝓤 : Ura M} (𝓛 : Logic 𝓤) (n : ℕ) (s : Slot n) (k : Kept)
    → ((κs : Lfts n) (x : (s.row κs).Denot) (f : Last ((s.row κs).exit k) x) → T (blank (left ((s.row κs).exit k) x f))) → Goes 𝓛 n s k (stay_dropped s k)
Goes-blank {𝓤 = 𝓤} 𝓛 n s k is κs x f vs ok = via 𝓤 _ (had 𝓛 (left ((s.row κs).exit k) x f) (is κs x f)) (𝓛.laws.⇛_intro _)

-- the one machine value of a value that takes no more
pub one_val : {P : Type 1} (vs : List Val) → Lone vs → ((v : Val) → vs ≡ v ∷ [] → P) → P
one_val [] n k = absurd n
one_val (v ∷ []) n k = k v refl
one_val (v ∷ w ∷ vs) n k = absurd n
