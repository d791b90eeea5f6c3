-- The bytes that lead from a state to another, by the states between them.
use Rattle.std.specs.Prelude.{◌≡◌, ℕ, ◌↔◌, Bool, true, List, [], ◌∷◌, ◌++◌, length, IsTrue}
use Rattle.bit_sets.specs.Bytes.{IsSetOf}
use Rattle.bit_sets.specs.Texts.{AllBytes}
use Rattle.bit_sets.specs.declared.byte_set.ByteSet.{ByteSet}
use Rattle.byte_nfa.specs.Steps.{State, state, bytes_state, loop_state, Accepts}
use Rattle.byte_nfa.specs.Building.{Agrees}

-- the test that every byte passes
abbrev pub is_any_byte : ℕ → Bool
is_any_byte c = true

-- the state s reads a byte that passes the test, and goes on to e
abbrev pub Reads : List State → ℕ → (ℕ → Bool) → ℕ → Type 0
Reads a s test e = (w : ByteSet) × (state a s ≡ bytes_state w e) × IsSetOf test w

-- the state s stays on bytes that pass the test, and goes on to e
abbrev pub Stays : List State → ℕ → (ℕ → Bool) → ℕ → Type 0
Stays a s test e = (w : ByteSet) × (state a s ≡ loop_state w (e ∷ [])) × IsSetOf test w

-- From the state s, bytes that pass the test lead to the state e: a text leads from s to an end exactly if it is such bytes and
-- then a text that leads from e to that end.
abbrev pub Leads : List State → ℕ → (List ℕ → Bool) → ℕ → Type 0
Leads a s test e = (k : ℕ) (w : List ℕ) → AllBytes w → Accepts a k s w ↔ ((y z : List ℕ) × (w ≡ y ++ z) × IsTrue (test y) × Accepts a k e z)

-- the states that were added lead from s to e by bytes that pass the test, in each list of states that agrees with them
abbrev pub Builds : (List ℕ → Bool) → List State → List State → ℕ → ℕ → Type 0
Builds test old new s e = (a : List State) → Agrees a new (length old) (length new) → Leads a s test e
