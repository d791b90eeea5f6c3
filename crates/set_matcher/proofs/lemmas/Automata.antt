-- Tokens in automata, and runs.
use Rattle.std.proofs.Common.{◌≡◌, ℕ, zero, suc, ◌+◌, ◌-◌, ◌*◌, ◌≤◌, ◌⊎◌, inl, inr, List, [], ◌∷◌, ◌++◌, Option, Some, None, drop, take, length, length-drop, refl, ap, sym, subst, ◌∙◌, arith}
use Rattle.std.specs.Prelude.{◌↔◌}
use Rattle.std.proofs.Math.Logic.{⊎_elim}
use Rattle.std.proofs.Math.Nat.{mul-le-mul_right}
use Rattle.std.proofs.Math.Seq.{take-append_seam}
use Rattle.std.proofs.lemmas.List.{length-append}
use Rattle.byte_nfa.specs.Runs.{size}
use Rattle.byte_nfa.specs.Steps.{State, NfaValue, state, union_state, HasNumber, IsReached, Accepts, ends, by_byte, by_skip, by_out, by_stay}
use Rattle.bit_sets.specs.Texts.{AllBytes}
use Rattle.glob_strategy.specs.IndexedTokens.{IndexedTokens, SomeMatches, IsFor}
use Rattle.glob_strategy.proofs.lemmas.IndexedTokens.{reached_matches}
use Rattle.glob_strategy.proofs.lemmas.TokenMeaning.{extension_end}
use Rattle.glob_path.specs.PathParts.{after_position, component_extension, last_component, last_position, is_separator}
use Rattle.set_matcher.specs.inner.Automata.{before_extension}

-- ---- the last component of a path

bytes_dropped : (n : ℕ) (path : List ℕ) → AllBytes path → AllBytes (drop n path)
bytes_dropped zero path h = h
bytes_dropped (suc n) [] h = tt
bytes_dropped (suc n) (c ∷ cs) h = bytes_dropped n cs h.1

pub bytes_after : (o : Option ℕ) (path : List ℕ) → AllBytes path → AllBytes (after_position path o)
bytes_after None path h = h
bytes_after (Some k) path h = bytes_dropped (k + 1) path h

pub component_bytes : (path : List ℕ) → AllBytes path → AllBytes (last_component path)
component_bytes path h = bytes_after (last_position is_separator path) path h

-- a bound on visits for a text, within that for a longer one
shorter_visits : (a b n old new : ℕ) → a ≤ b → new ≤ old + (a + 1) * n → new ≤ old + (b + 1) * n
shorter_visits a b n old new le few =
    let fewer : a + 1 ≤ b + 1 = omega (arith, le) in
    let maximum = mul-le-mul_right n fewer in omega (arith, few, maximum)

component_length : (o : Option ℕ) (path : List ℕ) → length (after_position path o) ≤ length path
component_length None path = omega arith
component_length (Some k) path = let rest = length-drop (k + 1) path in omega (arith, rest)

-- the visits of a run over it, within those of a run over the path
pub component_visits : (path text : List ℕ) (n old new : ℕ) → text ≡ last_component path → new ≤ old + (length text + 1) * n → new ≤ old + (length path + 1) * n
component_visits path text n old new is few =
    let shorter = component_length (last_position is_separator path) path in
    let long = ap length is in
    shorter_visits (length text) (length path) n old new (omega (arith, shorter, long)) few

-- ---- a path before its extension

pub extension_cut : (path : List ℕ) → before_extension path ++ component_extension path ≡ path
extension_cut path =
    let (front, cut) = extension_end path in
    let count : length path - length (component_extension path) ≡ length front = let all = ap length cut in let parts = length-append front (component_extension path) in omega (arith, all, parts) in
    let same : before_extension path ≡ front = ap (λ k. take k path) count ∙ ap (take (length front)) cut ∙ take-append_seam front (component_extension path) in
    ap (λ l. l ++ component_extension path) same ∙ sym cut

bytes_taken : (n : ℕ) (path : List ℕ) → AllBytes path → AllBytes (take n path)
bytes_taken zero path h = tt
bytes_taken (suc n) [] h = tt
bytes_taken (suc n) (c ∷ cs) h = (h.0, bytes_taken n cs h.1)

pub before_bytes : (path : List ℕ) → AllBytes path → AllBytes (before_extension path)
before_bytes path h = bytes_taken (length path - length (component_extension path)) path h

-- ---- an automaton without states

no_state : (k s : ℕ) (y : List ℕ) → state [] s ≡ union_state [] → Accepts [] k s y → ⊥
no_state k s y e (ends s' f) = absurd (let g = sym e ∙ f in cc)
no_state k s y e (by_byte s' t c z w f has rest) = absurd (let g = sym e ∙ f in cc)
no_state k s y e (by_skip s' t z ts f m rest) = let g = sym e ∙ f in let same : ts ≡ [] = cc in absurd (subst (HasNumber t) same m)
no_state k s y e (by_out s' t z w ts f m rest) = absurd (let g = sym e ∙ f in cc)
no_state k s y e (by_stay s' c z w ts f has rest) = absurd (let g = sym e ∙ f in cc)

none_accepted : (states : List State) (k s : ℕ) (y : List ℕ) → length states ≡ 0 → Accepts states k s y → ⊥
none_accepted [] k s y e h = no_state k s y refl h
none_accepted (x ∷ xs) k s y e h = absurd (omega (arith, e))

-- no text leads to an end of it
pub no_reached : (m : NfaValue) (y : List ℕ) (k : ℕ) → size m ≡ 0 → IsReached m y k → ⊥
no_reached m y k none (s, at, accepts) = none_accepted m.states k s y none accepts

-- it is for tokens that match nothing
pub no_matches : (m : NfaValue) (xs : List IndexedTokens) (path : List ℕ) (k : ℕ) → size m ≡ 0 → IsFor m xs → AllBytes path → SomeMatches xs path k → ⊥
no_matches m xs path k none is bytes some = no_reached m path k none ((reached_matches m xs path k is bytes).1 some)

-- ---- three runs

-- what a run puts into a set, by the tokens
pub by_tokens : {A B P S : Type 0} → A ↔ B → P ↔ (A ⊎ S) → P ↔ (B ⊎ S)
by_tokens {A} {B} {P} {S} same run = (
  λ p. ⊎_elim {C = B ⊎ S} (λ a. inl (same.0 a)) (λ s. inr s) (run.0 p),
  λ h. run.1 (⊎_elim {C = A ⊎ S} (λ b. inl (same.1 b)) (λ s. inr s) h),
)

-- one after another puts what it finds into a set that was empty
pub three_runs : {A B C P Q R S : Type 0} → (S → ⊥) → P ↔ (A ⊎ S) → Q ↔ (B ⊎ P) → R ↔ (C ⊎ Q) → R ↔ (A ⊎ (B ⊎ C))
three_runs {A} {B} {C} {P} {Q} {R} {S} empty one two three = (
  λ r. ⊎_elim {C = A ⊎ (B ⊎ C)} (λ c. inr (inr c))
      (λ q. ⊎_elim {C = A ⊎ (B ⊎ C)} (λ b. inr (inl b)) (λ p. ⊎_elim {C = A ⊎ (B ⊎ C)} (λ a. inl a) (λ s. absurd (empty s)) (one.0 p)) (two.0 q)) (three.0 r),
  λ h. ⊎_elim {C = R} (λ a. three.1 (inr (two.1 (inr (one.1 (inl a))))))
      (λ bc. ⊎_elim {C = R} (λ b. three.1 (inr (two.1 (inl b)))) (λ c. three.1 (inl c)) bc) h,
)

-- the last of them alone tells whether something is found, if the others find nothing
pub last_run : {N R : Type 0} {A B C : N → Type 0} → ((k : N) → A k → ⊥) → ((k : N) → B k → ⊥) → R ↔ ((k : N) × C k) → R ↔ ((k : N) × (A k ⊎ (B k ⊎ C k)))
last_run {N} {R} {A} {B} {C} no_a no_b last = (
  λ r. let some = last.0 r in (some.0, inr (inr some.1)),
  λ h. ⊎_elim {C = R} (λ a. absurd (no_a h.0 a)) (λ bc. ⊎_elim {C = R} (λ b. absurd (no_b h.0 b)) (λ c. last.1 (h.0, c)) bc) h.1,
)
