-- The slots of extensions in a map.
use Rattle.std.specs.Prelude.{◌≡◌, ℕ, List, Option}
use Rattle.std.specs.BTreeMap.{BTreeMap, get_by}
use Rattle.std.specs.Cmp.Lexicographic.{slice_cmp}
use Rattle.std.specs.Ordering.{nat_cmp}
use Rattle.std.proofs.Common.{Vec}
use Rattle.glob_path.specs.Entries.{Entry}
use Rattle.set_matcher.specs.inner.Automata.{slot_of}

-- the slot under an extension, if any
abbrev pub slot_in : {X : Type 0} → BTreeMap (Vec ℕ X) ℕ → List ℕ → Option ℕ
slot_in slots extension = get_by (λ k. slice_cmp nat_cmp extension k.items) slots

-- the map has the slots of the entries
pub record HasSlots {X : Type 0} (slots : BTreeMap (Vec ℕ X) ℕ) (entries : List Entry) : Type 0 where
  pub same : (extension : List ℕ) → slot_in slots extension ≡ slot_of entries extension
