-- Where a text leads, by sets of states.
use Rattle.std.specs.Prelude.{◌≡◌, ℕ, ◌+◌, ◌≤◌, ◌⊎◌, ◌↔◌, ◌||◌, Bool, false, List, [], ◌∷◌, ◌++◌, length, Option, Some, IsTrue}
use Rattle.bit_sets.specs.Indexes.{has_index}
use Rattle.bit_sets.specs.declared.index_set.IndexSet.{IndexSet}
use Rattle.bit_sets.specs.declared.state_set.StateSet.{StateSet}
use Rattle.bit_sets.specs.Numbers.{has_number}
use Rattle.bit_sets.specs.StateSets.{has_state}
use Rattle.byte_nfa.specs.Steps.{NfaValue}
use Rattle.byte_nfa.specs.Runs.{AcceptsFrom}
use Rattle.byte_nfa.specs.inner.Pass.{AcceptsNow, PassInvariant}
use Rattle.byte_nfa.specs.EarlyMatches.{half, FindsBy}
use Rattle.byte_nfa.specs.inner.Told.{ToldBy}
use Rattle.byte_nfa.specs.declared.stepping.Led.{Led}
use Rattle.byte_nfa.specs.declared.stepping.Led.TheVariants.{Decided, NoState, States}

-- a state of the set below the limit leads without a byte to an end of the index i
abbrev pub EndsBelow : NfaValue → StateSet → ℕ → ℕ → Type 0
EndsBelow m from limit i = AcceptsNow m.states (has_state from) limit [] i

-- a state of the set below the limit accepts the byte and what follows, or a state of the other set accepts what follows
abbrev pub StepsBelow : NfaValue → StateSet → ℕ → StateSet → ℕ → List ℕ → ℕ → Type 0
StepsBelow m from limit to b y k = PassInvariant m.states (has_state from) limit (has_state to) (λ _. false) (b ∷ y) k

-- a count grows by at least as many as the new set has numbers that the old set lacks
abbrev pub AreCounted : (ℕ → Bool) → (ℕ → Bool) → ℕ → ℕ → Type 0
AreCounted old new before after = (added : List ℕ) × (before + length added ≤ after) × ((t : ℕ) → IsTrue (new t) → IsTrue (has_number t added || old t))

-- the byte, if there is one, leads from the states of a set to those of the other set
abbrev pub IsStepBy : NfaValue → StateSet → Option ℕ → StateSet → Type 0
IsStepBy m from byte to = (b : ℕ) (y : List ℕ) (k : ℕ) → byte ≡ Some b → AcceptsFrom m from (b ∷ y) k ↔ AcceptsFrom m to y k

-- the states of the set lead without a byte to an end of an index from the lowest on
abbrev pub HasEndFrom : NfaValue → StateSet → ℕ → Type 0
HasEndFrom m set lowest = (i : ℕ) × (lowest ≤ i) × AcceptsFrom m set [] i

-- the new set has what the ends tell that the states of a set lead to without a byte, of those of an index from the lowest on, in
-- addition to the old set
abbrev pub AddsTold : NfaValue → StateSet → ℕ → IndexSet → IndexSet → Type 0
AddsTold m set lowest old new = (k : ℕ) → IsTrue (has_index new k) ↔ (ToldBy (half m) (AcceptsFrom m set []) lowest k ⊎ IsTrue (has_index old k))

-- the new set has the indexes found in the text from the states of a set, in addition to the old set
abbrev pub AddsFoundFrom : NfaValue → StateSet → List ℕ → IndexSet → IndexSet → Type 0
AddsFoundFrom m set text old new = (k : ℕ) → IsTrue (has_index new k) ↔ (FindsBy (half m) (AcceptsFrom m set) text k ⊎ IsTrue (has_index old k))

-- With every text after this text, from the states of the old set: some index is found, or no index is, or the found indexes are
-- those that the states of the new set lead to by the added text.
abbrev pub IsLed : NfaValue → StateSet → StateSet → List ℕ → Led → Type 0
IsLed m old new text Decided = (z : List ℕ) → (k : ℕ) × FindsBy (half m) (AcceptsFrom m old) (text ++ z) k
IsLed m old new text NoState = (z : List ℕ) (k : ℕ) → FindsBy (half m) (AcceptsFrom m old) (text ++ z) k → ⊥
IsLed m old new text States = (z : List ℕ) (k : ℕ) → FindsBy (half m) (AcceptsFrom m new) z k ↔ FindsBy (half m) (AcceptsFrom m old) (text ++ z) k

-- a count grows by at least as many as the states that the text leads to, except those of the old set
abbrev pub IsLedCounted : StateSet → StateSet → ℕ → ℕ → Led → Type 0
IsLedCounted old new before after Decided = before ≤ after
IsLedCounted old new before after NoState = before ≤ after
IsLedCounted old new before after States = AreCounted (has_state old) (has_state new) before after

-- With every text after this text: the indexes found from the states of the old set, together with the old indexes, are the
-- indexes found in the added text from the states of the new set, together with the new indexes.
abbrev pub IsRunOn : NfaValue → StateSet → List ℕ → IndexSet → StateSet → IndexSet → Type 0
IsRunOn m old text had new has = (z : List ℕ) (k : ℕ) → (FindsBy (half m) (AcceptsFrom m new) z k ⊎ IsTrue (has_index has k)) ↔ (FindsBy (half m) (AcceptsFrom m old) (text ++ z) k ⊎ IsTrue (has_index had k))
