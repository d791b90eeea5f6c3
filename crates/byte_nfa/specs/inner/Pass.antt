-- A pass over the states at a position of a text.
use Rattle.std.specs.Prelude.{◌≡◌, ℕ, ◌<◌, ◌⊎◌, Bool, false, ◌&&◌, ◌==◌, List, [], ◌∷◌, length, Option, Some, None, MatchOption, IsTrue}
use Rattle.bit_sets.specs.Bytes.{has_byte}
use Rattle.bit_sets.specs.Numbers.{has_number}
use Rattle.byte_nfa.specs.Steps.{State, bytes_state, union_state, loop_state, match_state, Accepts}

-- the next byte, if there is any
abbrev pub head : List ℕ → Option ℕ
head [] = None
head (c ∷ cs) = Some c

-- the state leads to t without a byte
abbrev pub goes_now : State → ℕ → Bool
goes_now (bytes_state w u) t = false
goes_now (union_state us) t = has_number t us
goes_now (loop_state w us) t = has_number t us
goes_now (match_state k) t = false

-- t is the state after the byte, from the state s
abbrev pub goes_next : State → ℕ → Option ℕ → ℕ → Bool
goes_next (bytes_state w u) s None t = false
goes_next (bytes_state w u) s (Some c) t = has_byte w c && (t == u)
goes_next (union_state us) s o t = false
goes_next (loop_state w us) s None t = false
goes_next (loop_state w us) s (Some c) t = has_byte w c && (t == s)
goes_next (match_state k) s o t = false

-- at the end of the text the state names k
abbrev pub names : State → Option ℕ → ℕ → Bool
names (match_state j) None k = k == j
names (match_state j) (Some c) k = false
names (bytes_state w u) o k = false
names (union_state us) o k = false
names (loop_state w us) o k = false

-- an answer about a state at the end of the text: the index that it names, or that it names none
abbrev pub TellsEnd : State → Option ℕ → Type 0
TellsEnd st told = MatchOption told ((k : ℕ) → names st None k ≡ false) (λ k. st ≡ match_state k)

-- the state is an end, or goes on without a byte to a state of the set
abbrev pub EndsBy : State → (ℕ → Bool) → Type 0
EndsBy st accepting = ((k : ℕ) × IsTrue (names st None k)) ⊎ ((t : ℕ) × IsTrue (goes_now st t) × IsTrue (accepting t))

-- the state is an end, or goes on to a state of the set without a byte, or by a byte to a lower state of the set
abbrev pub LeadsBy : State → ℕ → (ℕ → Bool) → Type 0
LeadsBy st s live = EndsBy st live ⊎ ((c t : ℕ) × (c < 256) × (t < s) × IsTrue (goes_next st s (Some c) t) × IsTrue (live t))

-- a state of the set below the bound accepts y
abbrev pub AcceptsNow : List State → (ℕ → Bool) → ℕ → List ℕ → ℕ → Type 0
AcceptsNow a now limit y k = (t : ℕ) × (t < limit) × IsTrue (now t) × Accepts a k t y

-- a state of the next set accepts what follows the first byte
abbrev pub AcceptsLater : List State → (ℕ → Bool) → List ℕ → ℕ → Type 0
AcceptsLater a next y k = (c : ℕ) × (z : List ℕ) × (t : ℕ) × (y ≡ c ∷ z) × (t < length a) × IsTrue (next t) × Accepts a k t z

-- the text is at its end, and k was found
abbrev pub Found : (ℕ → Bool) → List ℕ → ℕ → Type 0
Found found y k = (y ≡ []) × IsTrue (found k)

-- the invariant of a pass: k is accepted from the unread states, from the next set, or was found
abbrev pub PassInvariant : List State → (ℕ → Bool) → ℕ → (ℕ → Bool) → (ℕ → Bool) → List ℕ → ℕ → Type 0
PassInvariant a now limit next found y k = AcceptsNow a now limit y k ⊎ (AcceptsLater a next y k ⊎ Found found y k)
