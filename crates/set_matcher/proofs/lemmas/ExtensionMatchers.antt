-- The slots of extensions, and the tokens in them.
use Rattle.std.proofs.Common.{◌≡◌, ◌≢◌, ℕ, zero, suc, ◌+◌, ◌*◌, ◌<◌, ◌≤◌, max, ◌⊎◌, inl, inr, Bool, true, false, cond, ◌==◌, List, [], ◌∷◌, ◌++◌, Option, Some, None, length, get_or, set, take, refl, ap, sym, subst, ◌∙◌, arith}
use Rattle.std.specs.Prelude.{◌↔◌}
use Rattle.std.specs.Option.{option_map_or}
use Rattle.std.specs.Str.{bytes_eq}
use Rattle.std.specs.Cmp.Lexicographic.{bytes_decides}
use Rattle.std.proofs.Math.Logic.{⊎_elim}
use Rattle.std.proofs.lemmas.Bool.{eq-eqb}
use Rattle.std.proofs.lemmas.Bool.Decides.{eqb_tells}
use Rattle.std.proofs.lemmas.List.Sums.{sum_by-append}
use Rattle.std.proofs.lemmas.Nat.{mul-le}
use Rattle.std.proofs.lemmas.List.{take_more, get_or_push, get_or_append_left, get_or-set_same, get_or-set_other, length-append, length-set}
use Rattle.byte_nfa.specs.Steps.{HasNumber, NfaValue}
use Rattle.byte_nfa.specs.Runs.{size, max_reads}
use Rattle.glob_path.specs.Entries.{Entry, entry, indexes_under}
use Rattle.glob_path.proofs.lemmas.Entries.{with_index}
use Rattle.glob_path.proofs.lemmas.Entries.{indexes_added}
use Rattle.glob_syntax.specs.After.{MeanAfter}
use Rattle.glob_strategy.specs.IndexedTokens.{SomeMeanAfter}
use Rattle.glob_strategy.specs.IndexedTokens.{IndexedTokens, IsFor}
use Rattle.set_matcher.specs.inner.Automata.{ExtensionParts, AreExtensionMatchers, AreFor, KeepsTokens, AddsTokens, SomeExtensionAfter, first, max_size, nfa_at, nfa_under, no_nfa, slot_of, tokens_under, total_reads}
use Rattle.set_matcher.proofs.lemmas.Tables.{first_in, under_push, first_push}

abbrev pub extension_parts : List Entry → List NfaValue → ℕ → ExtensionParts
extension_parts slots nfas n = record { slots = slots; nfas = nfas; index_count = n }

equal_or_not : (a b : ℕ) → (a ≡ b) ⊎ (a ≢ b)
equal_or_not a b = ⊎_elim {C = (a ≡ b) ⊎ (a ≢ b)} (λ y. inl y.1) (λ n. inr n.1) (eqb_tells a b)

-- the tokens of each slot, with those of one slot replaced
abbrev replaced : ℕ → List IndexedTokens → (ℕ → List IndexedTokens) → ℕ → List IndexedTokens
replaced s xs before t = cond (t == s) xs (before t)

replaced_at : (s : ℕ) (xs : List IndexedTokens) (before : ℕ → List IndexedTokens) (t : ℕ) → t ≡ s → replaced s xs before t ≡ xs
replaced_at s xs before t e = ap (λ b. cond b xs (before t)) (eq-eqb t s e)

replaced_other : (s : ℕ) (xs : List IndexedTokens) (before : ℕ → List IndexedTokens) (t : ℕ) → t ≢ s → replaced s xs before t ≡ before t
replaced_other s xs before t n =
    ⊎_elim {C = replaced s xs before t ≡ before t} (λ y. absurd (n y.1)) (λ no. ap (λ b. cond b xs (before t)) no.0) (eqb_tells t s)

-- ---- one automaton more

pushed_at : (nfas : List NfaValue) (m : NfaValue) (s : ℕ) (d : NfaValue) → s < length (nfas ++ m ∷ [])
    → ((s < length nfas) × (get_or (nfas ++ m ∷ []) s d ≡ get_or nfas s d)) ⊎ ((s ≡ length nfas) × (get_or (nfas ++ m ∷ []) s d ≡ m))
pushed_at nfas m s d lt =
    let len : length (nfas ++ m ∷ []) ≡ length nfas + 1 = length-append nfas (m ∷ []) in
    ⊎_elim {C = ((s < length nfas) × (get_or (nfas ++ m ∷ []) s d ≡ get_or nfas s d)) ⊎ ((s ≡ length nfas) × (get_or (nfas ++ m ∷ []) s d ≡ m))}
    (λ is. inr (is, get_or_push nfas m d s (sym is)))
    (λ other. let within : s < length nfas = omega (arith, lt, len, other) in inl (within, get_or_append_left nfas (m ∷ []) d s within))
    (equal_or_not s (length nfas))

-- what is true of the parts stays true
pub matchers_push : (slots : List Entry) (nfas : List NfaValue) (n : ℕ) (m : NfaValue) → m.index_count ≡ n → AreExtensionMatchers slots nfas n → AreExtensionMatchers slots (nfas ++ m ∷ []) n
matchers_push slots nfas n m is before = record {
  held = λ extension s there.
      let lt = before.held extension s there in let len : length (nfas ++ m ∷ []) ≡ length nfas + 1 = length-append nfas (m ∷ []) in omega (arith, lt, len);
  apart = before.apart;
  counted = λ s d lt.
      ⊎_elim {C = (get_or (nfas ++ m ∷ []) s d).index_count ≡ n} (λ old. ap (λ (x : NfaValue). x.index_count) old.1 ∙ before.counted s d old.0)
      (λ new. ap (λ (x : NfaValue). x.index_count) new.1 ∙ is) (pushed_at nfas m s d lt);
}

-- no extension has a slot
pub matchers_cleared : (slots : List Entry) (nfas : List NfaValue) (n : ℕ) → AreExtensionMatchers slots nfas n → AreExtensionMatchers [] nfas n
matchers_cleared slots nfas n before = record {
  held = λ extension s there. absurd there;
  apart = λ a b s of_a of_b. absurd (cc);
  counted = before.counted;
}

-- ---- a new slot

-- no other extension has it
pub matchers_insert : (slots : List Entry) (nfas : List NfaValue) (n : ℕ) (m : NfaValue) (key : List ℕ) (slot : ℕ) → m.index_count ≡ n → slot ≡ length nfas
    → AreExtensionMatchers slots nfas n → AreExtensionMatchers (slots ++ entry key slot ∷ []) (nfas ++ m ∷ []) n
matchers_insert slots nfas n m key slot is at before =
    let more = matchers_push slots nfas n m is before in
    let len : length (nfas ++ m ∷ []) ≡ length nfas + 1 = length-append nfas (m ∷ []) in record {
      held = λ extension s there.
          ⊎_elim {C = s < length (nfas ++ m ∷ [])} (λ old. more.held extension s old) (λ new. omega (arith, new, at, len)) (under_push slots key slot extension s there);
      apart = λ a b s of_a of_b.
          ⊎_elim {C = a ≡ b}
          (λ old_a. ⊎_elim {C = a ≡ b} (λ old_b. before.apart a b s old_a old_b) (λ new_b. absurd (is_new a s old_a new_b.1)) (first_push slots key slot b s of_b))
          (λ new_a. ⊎_elim {C = a ≡ b} (λ old_b. absurd (is_new b s old_b new_a.1)) (λ new_b. sym new_a.0 ∙ new_b.0) (first_push slots key slot b s of_b))
          (first_push slots key slot a s of_a);
      counted = more.counted;
    }
  where
    is_new : (extension : List ℕ) (s : ℕ) → slot_of slots extension ≡ Some s → slot ≡ s → ⊥
    is_new extension s old new = let within = before.held extension s (first_in (indexes_under slots extension) s old) in absurd (omega (arith, within, new, at))

-- what the slot of an extension tells, if the new slot tells the same as no slot
first_new : {X : Type 0} (b : Bool) (n : ℕ) (xs : List ℕ) (now before : ℕ → X) (none : X) → now n ≡ none → ((t : ℕ) → HasNumber t xs → now t ≡ before t)
    → option_map_or now (first (with_index b n xs)) none ≡ option_map_or before (first xs) none
first_new true n [] now before none new same = new
first_new false n [] now before none new same = refl
first_new true n (x ∷ xs) now before none new same = same x (inl refl)
first_new false n (x ∷ xs) now before none new same = same x (inl refl)

-- no tokens are in it
pub slot_keeps : (old new : ExtensionParts) (key : List ℕ) (n : ℕ) (m : NfaValue) → n ≡ length old.nfas → AreExtensionMatchers old.slots old.nfas old.index_count → IsFor m []
    → new.slots ≡ old.slots ++ entry key n ∷ [] → new.nfas ≡ old.nfas ++ m ∷ [] → (before : ℕ → List IndexedTokens) → AreFor old.nfas before → KeepsTokens old before new
slot_keeps old new key n m at is_old empty slots nfas before are = record {
  tokens = replaced n [] before;
  are_for = subst (λ ms. AreFor ms (replaced n [] before)) (sym nfas)
      (λ s d lt. ⊎_elim {C = IsFor (get_or (old.nfas ++ m ∷ []) s d) (replaced n [] before s)}
      (λ o. let other : s ≢ n = (λ e. let within = o.0 in absurd (omega (arith, e, at, within))) in
      subst (IsFor (get_or (old.nfas ++ m ∷ []) s d)) (sym (replaced_other n [] before s other)) (subst (λ x. IsFor x (before s)) (sym o.1) (are s d o.0)))
      (λ new. let is = new.0 in subst (IsFor (get_or (old.nfas ++ m ∷ []) s d)) (sym (replaced_at n [] before s (omega (arith, is, at)))) (subst (λ x. IsFor x []) (sym new.1) empty))
      (pushed_at old.nfas m s d lt));
  same = λ extension.
      ap (λ es. tokens_under (replaced n [] before) es extension) slots
      ∙ ap (λ xs. option_map_or (replaced n [] before) (first xs) []) (indexes_added old.slots key n extension)
      ∙ first_new (bytes_eq key extension) n (indexes_under old.slots extension) (replaced n [] before) before [] (replaced_at n [] before n refl)
      (λ t there. let within = is_old.held extension t there in replaced_other n [] before t (λ e. absurd (omega (arith, e, at, within))));
  after = λ y. let long = ap length nfas in let len = length-append old.nfas (m ∷ []) in (
    λ (s, lt, some). ⊎_elim {C = SomeExtensionAfter (length old.nfas) before y}
        (λ is. absurd (subst (λ xs. SomeMeanAfter xs y) (replaced_at n [] before s is) some))
        (λ other. (s, omega (arith, lt, long, len, at, other), subst (λ xs. SomeMeanAfter xs y) (replaced_other n [] before s other) some))
        (equal_or_not s n),
    λ (s, lt, some). (
      s,
      omega (arith, lt, long, len),
      subst (λ xs. SomeMeanAfter xs y) (sym (replaced_other n [] before s (λ e. absurd (omega (arith, e, at, lt))))) some,
    ),
  );
}

-- ---- the reads of the automaton of an extension

abbrev reads_at : List NfaValue → ℕ → ℕ
reads_at nfas s = max_reads (get_or nfas s (no_nfa 0))

reads_of : (nfas : List NfaValue) (o : Option ℕ) → max_reads (nfa_at nfas o) ≡ option_map_or (reads_at nfas) o 0
reads_of nfas None = refl
reads_of nfas (Some s) = refl

-- a new slot has none
pub slot_reads : (old new : ExtensionParts) (key : List ℕ) (n : ℕ) (m : NfaValue) → n ≡ length old.nfas → AreExtensionMatchers old.slots old.nfas old.index_count → max_reads m ≡ 0
    → new.slots ≡ old.slots ++ entry key n ∷ [] → new.nfas ≡ old.nfas ++ m ∷ [] → (extension : List ℕ) → max_reads (nfa_under new extension) ≡ max_reads (nfa_under old extension)
slot_reads old new key n m at is_old no_states slots nfas extension =
    reads_of new.nfas (slot_of new.slots extension)
    ∙ ap (λ ms. option_map_or (reads_at ms) (slot_of new.slots extension) 0) nfas
    ∙ ap (λ es. option_map_or (reads_at (old.nfas ++ m ∷ [])) (slot_of es extension) 0) slots
    ∙ ap (λ xs. option_map_or (reads_at (old.nfas ++ m ∷ [])) (first xs) 0) (indexes_added old.slots key n extension)
    ∙ first_new (bytes_eq key extension) n (indexes_under old.slots extension) (reads_at (old.nfas ++ m ∷ [])) (reads_at old.nfas) 0
    (ap max_reads (get_or_push old.nfas m (no_nfa 0) n (sym at)) ∙ no_states)
    (λ t there. ap max_reads (get_or_append_left old.nfas (m ∷ []) (no_nfa 0) t (is_old.held extension t there)))
    ∙ sym (reads_of old.nfas (slot_of old.slots extension))

-- ---- the reads of all automata

-- a new one without states has none
pub total_push : (nfas : List NfaValue) (m : NfaValue) → max_reads m ≡ 0 → total_reads (nfas ++ m ∷ []) ≡ total_reads nfas
total_push nfas m none = let sum = sum_by-append max_reads nfas (m ∷ []) in omega (arith, sum, none)

total_cons : (m : NfaValue) (ms : List NfaValue) → total_reads (m ∷ ms) ≡ max_reads m + total_reads ms
total_cons m ms = let sum = sum_by-append max_reads (m ∷ []) ms in omega (arith, sum)

-- one automaton has at most so many more
pub total_set : (nfas : List NfaValue) (i more : ℕ) (d now : NfaValue) → i < length nfas → max_reads now ≤ max_reads (get_or nfas i d) + more → total_reads (set nfas i now) ≤ total_reads nfas + more
total_set [] i more d now lt few = absurd (omega (arith, lt))
total_set (m ∷ ms) zero more d now lt few = let old = total_cons m ms in let new = total_cons now ms in omega (arith, few, old, new)
total_set (m ∷ ms) (suc i) more d now lt few =
    let rest = total_set ms i more d now (omega (arith, lt)) few in let old = total_cons m ms in let new = total_cons m (set ms i now) in omega (arith, rest, old, new)

-- ---- tokens for a slot

-- some tokens more
pub after_push : (xs : List IndexedTokens) (x : IndexedTokens) (y : List ℕ) → SomeMeanAfter (xs ++ x ∷ []) y ↔ (SomeMeanAfter xs y ⊎ MeanAfter x.options x.tokens y)
after_push [] x y = (
  λ h. ⊎_elim {C = ⊥ ⊎ MeanAfter x.options x.tokens y} (λ this. inr this) (λ no. absurd no) h,
  λ h. ⊎_elim {C = MeanAfter x.options x.tokens y ⊎ ⊥} (λ no. absurd no) (λ this. inl this) h,
)
after_push (z ∷ zs) x y =
    let rest = after_push zs x y in
    let here = MeanAfter z.options z.tokens y in (
      λ h. ⊎_elim {C = (here ⊎ SomeMeanAfter zs y) ⊎ MeanAfter x.options x.tokens y} (λ first. inl (inl first))
          (λ later. ⊎_elim {C = (here ⊎ SomeMeanAfter zs y) ⊎ MeanAfter x.options x.tokens y} (λ old. inl (inr old)) (λ this. inr this) (rest.0 later)) h,
      λ h. ⊎_elim {C = here ⊎ SomeMeanAfter (zs ++ x ∷ []) y}
          (λ old. ⊎_elim {C = here ⊎ SomeMeanAfter (zs ++ x ∷ []) y} (λ first. inl first) (λ later. inr (rest.1 (inl later))) old)
          (λ this. inr (rest.1 (inr this))) h,
    )

set_at_slot : (nfas : List NfaValue) (i : ℕ) (m : NfaValue) (s : ℕ) (d : NfaValue) → i < length nfas
    → ((s ≡ i) × (get_or (set nfas i m) s d ≡ m)) ⊎ ((s ≢ i) × (get_or (set nfas i m) s d ≡ get_or nfas s d))
set_at_slot nfas i m s d lt =
    ⊎_elim {C = ((s ≡ i) × (get_or (set nfas i m) s d ≡ m)) ⊎ ((s ≢ i) × (get_or (set nfas i m) s d ≡ get_or nfas s d))}
    (λ is. inl (is, ap (λ j. get_or (set nfas i m) j d) is ∙ get_or-set_same nfas i m d lt))
    (λ other. inr (other, get_or-set_other nfas i s m d other))
    (equal_or_not s i)

-- what is true of the parts stays true
pub matchers_set : (slots : List Entry) (nfas : List NfaValue) (n i : ℕ) (m : NfaValue) → i < length nfas → m.index_count ≡ n → AreExtensionMatchers slots nfas n
    → AreExtensionMatchers slots (set nfas i m) n
matchers_set slots nfas n i m lt is before =
    let len : length (set nfas i m) ≡ length nfas = length-set nfas i m in record {
      held = λ extension s there. let within = before.held extension s there in omega (arith, within, len);
      apart = before.apart;
      counted = λ s d within.
          ⊎_elim {C = (get_or (set nfas i m) s d).index_count ≡ n} (λ this. ap (λ (x : NfaValue). x.index_count) this.1 ∙ is)
          (λ other. ap (λ (x : NfaValue). x.index_count) other.1 ∙ before.counted s d (omega (arith, within, len)))
          (set_at_slot nfas i m s d lt);
    }

kept_at : (o : Option ℕ) (s : ℕ) (xs : List IndexedTokens) (before : ℕ → List IndexedTokens) → o ≢ Some s → option_map_or (replaced s xs before) o [] ≡ option_map_or before o []
kept_at None s xs before other = refl
kept_at (Some t) s xs before other = replaced_other s xs before t (λ e. other (ap Some e))

pub slot_adds : (old mid new : ExtensionParts) (key : List ℕ) (s : ℕ) (x : IndexedTokens) (d now : NfaValue)
    → AreExtensionMatchers mid.slots mid.nfas mid.index_count → slot_of mid.slots key ≡ Some s → s < length mid.nfas → new.slots ≡ mid.slots → new.nfas ≡ set mid.nfas s now
    → ((xs : List IndexedTokens) → IsFor (get_or mid.nfas s d) xs → IsFor now (xs ++ x ∷ []))
    → (before : ℕ → List IndexedTokens) → KeepsTokens old before mid → AddsTokens old before new key x
slot_adds old mid new key s x d now is_mid at lt slots nfas adds before kept = record {
  tokens = tokens;
  are_for = subst (λ ms. AreFor ms tokens) (sym nfas)
      (λ t e within. ⊎_elim {C = IsFor (get_or (set mid.nfas s now) t e) (tokens t)}
      (λ this. subst (IsFor (get_or (set mid.nfas s now) t e)) (sym (replaced_at s (kept.tokens s ++ x ∷ []) kept.tokens t this.0))
      (subst (λ m. IsFor m (kept.tokens s ++ x ∷ [])) (sym this.1) (adds (kept.tokens s) (kept.are_for s d lt))))
      (λ other. subst (IsFor (get_or (set mid.nfas s now) t e)) (sym (replaced_other s (kept.tokens s ++ x ∷ []) kept.tokens t other.0))
      (subst (λ m. IsFor m (kept.tokens t)) (sym other.1) (kept.are_for t e (let len : length (set mid.nfas s now) ≡ length mid.nfas = length-set mid.nfas s now in omega (arith, within, len)))))
      (set_at_slot mid.nfas s now t e lt));
  added = λ extension is.
      let here : slot_of mid.slots extension ≡ Some s = ap (λ q. slot_of mid.slots q) is ∙ at in
      ap (λ es. tokens_under tokens es extension) slots
      ∙ ap (λ o. option_map_or tokens o []) here
      ∙ replaced_at s (kept.tokens s ++ x ∷ []) kept.tokens s refl
      ∙ ap (λ o. option_map_or kept.tokens o [] ++ x ∷ []) (sym here)
      ∙ ap (λ ts. ts ++ x ∷ []) (kept.same extension);
  others = λ extension other.
      ap (λ es. tokens_under tokens es extension) slots
      ∙ kept_at (slot_of mid.slots extension) s (kept.tokens s ++ x ∷ []) kept.tokens (λ e. absurd (other (is_mid.apart extension key s e at)))
      ∙ kept.same extension;
  after = λ y. (
    λ h. ⊎_elim {C = SomeExtensionAfter (length old.nfas) before y ⊎ MeanAfter x.options x.tokens y} (λ was. inl ((kept.after y).0 was)) (λ this. inr this) ((slot_pushed y).0 h),
    λ h. (slot_pushed y).1 (⊎_elim {C = SomeExtensionAfter (length mid.nfas) kept.tokens y ⊎ MeanAfter x.options x.tokens y} (λ was. inl ((kept.after y).1 was)) (λ this. inr this) h),
  );
}
  where
    tokens : ℕ → List IndexedTokens
    tokens = replaced s (kept.tokens s ++ x ∷ []) kept.tokens

    slot_pushed : (y : List ℕ) → SomeExtensionAfter (length new.nfas) tokens y ↔ (SomeExtensionAfter (length mid.nfas) kept.tokens y ⊎ MeanAfter x.options x.tokens y)
    slot_pushed y =
        let long = ap length nfas in let len : length (set mid.nfas s now) ≡ length mid.nfas = length-set mid.nfas s now in
        let both = SomeExtensionAfter (length mid.nfas) kept.tokens y ⊎ MeanAfter x.options x.tokens y in
        let push = after_push (kept.tokens s) x y in (
          λ (t, within, some). ⊎_elim {C = both}
              (λ is. ⊎_elim {C = both} (λ was. inl (s, lt, was)) (λ this. inr this)
              (push.0 (subst (λ xs. SomeMeanAfter xs y) (replaced_at s (kept.tokens s ++ x ∷ []) kept.tokens t is) some)))
              (λ other. inl (t, omega (arith, within, long, len), subst (λ xs. SomeMeanAfter xs y) (replaced_other s (kept.tokens s ++ x ∷ []) kept.tokens t other) some))
              (equal_or_not t s),
          λ h. ⊎_elim {C = SomeExtensionAfter (length new.nfas) tokens y}
              (λ (t, within, some). ⊎_elim {C = SomeExtensionAfter (length new.nfas) tokens y}
              (λ is. (
                s,
                omega (arith, lt, long, len),
                subst (λ xs. SomeMeanAfter xs y) (sym (replaced_at s (kept.tokens s ++ x ∷ []) kept.tokens s refl)) (push.1 (inl (subst (λ u. SomeMeanAfter (kept.tokens u) y) is some))),
              ))
              (λ other. (
                t,
                omega (arith, within, long, len),
                subst (λ xs. SomeMeanAfter xs y) (sym (replaced_other s (kept.tokens s ++ x ∷ []) kept.tokens t other)) some,
              ))
              (equal_or_not t s))
              (λ this. (
                s,
                omega (arith, lt, long, len),
                subst (λ xs. SomeMeanAfter xs y) (sym (replaced_at s (kept.tokens s ++ x ∷ []) kept.tokens s refl)) (push.1 (inr this)),
              )) h,
        )

pub any_default : (nfas : List NfaValue) (s : ℕ) (d e : NfaValue) → s < length nfas → get_or nfas s d ≡ get_or nfas s e
any_default [] s d e lt = absurd (omega (arith, lt))
any_default (m ∷ ms) zero d e lt = refl
any_default (m ∷ ms) (suc s) d e lt = any_default ms s d e (omega (arith, lt))

-- one automaton has at most so many reads more
set_reads : (nfas : List NfaValue) (s more : ℕ) (now : NfaValue) (o : Option ℕ) (b : Bool) → s < length nfas → max_reads now ≤ max_reads (get_or nfas s (no_nfa 0)) + more → (o ≡ Some s → b ≡ true)
    → max_reads (nfa_at (set nfas s now) o) ≤ max_reads (nfa_at nfas o) + cond b more 0
set_reads nfas s more now None b lt few tells = omega arith
set_reads nfas s more now (Some t) b lt few tells =
    ⊎_elim {C = max_reads (get_or (set nfas s now) t (no_nfa 0)) ≤ max_reads (get_or nfas t (no_nfa 0)) + cond b more 0}
    (λ this.
    let b_is = ap (λ v. cond v more 0) (tells (ap Some this.0)) in
    let new = ap max_reads this.1 in
    let old = ap (λ u. max_reads (get_or nfas u (no_nfa 0))) this.0 in omega (arith, few, b_is, new, old))
    (λ other. let same = ap max_reads other.1 in omega (arith, same))
    (set_at_slot nfas s now t (no_nfa 0) lt)

pub slot_reads_added : (mid new : ExtensionParts) (key : List ℕ) (s more : ℕ) (d now : NfaValue) → AreExtensionMatchers mid.slots mid.nfas mid.index_count → slot_of mid.slots key ≡ Some s → s < length mid.nfas
    → new.slots ≡ mid.slots → new.nfas ≡ set mid.nfas s now → max_reads now ≤ max_reads (get_or mid.nfas s d) + more
    → (extension : List ℕ) → max_reads (nfa_under new extension) ≤ max_reads (nfa_under mid extension) + cond (bytes_eq key extension) more 0
slot_reads_added mid new key s more d now is_mid at lt slots nfas few extension =
    let is : max_reads (nfa_under new extension) ≡ max_reads (nfa_at (set mid.nfas s now) (slot_of mid.slots extension)) =
    ap (λ es. max_reads (nfa_at new.nfas (slot_of es extension))) slots
    ∙ ap (λ ms. max_reads (nfa_at ms (slot_of mid.slots extension))) nfas in
    let d_is = ap max_reads (any_default mid.nfas s d (no_nfa 0) lt) in
    let within : max_reads now ≤ max_reads (get_or mid.nfas s (no_nfa 0)) + more = omega (arith, few, d_is) in
    let le = set_reads mid.nfas s more now (slot_of mid.slots extension) (bytes_eq key extension) lt within (λ e. (bytes_decides key extension).1 (is_mid.apart key extension s at e)) in
    omega (arith, is, le)

-- ---- the largest automaton

pub max_more : (ms : List NfaValue) (m : NfaValue) → max_size (ms ++ m ∷ []) ≡ max (size m) (max_size ms)
max_more [] m = omega arith
max_more (x ∷ xs) m = let rest = max_more xs m in omega (arith, rest)

pub max_bounds : (nfas : List NfaValue) (s : ℕ) (d : NfaValue) → s < length nfas → size (get_or nfas s d) ≤ max_size nfas
max_bounds [] s d lt = absurd (omega (arith, lt))
max_bounds (m ∷ ms) zero d lt = omega arith
max_bounds (m ∷ ms) (suc s) d lt = let rest = max_bounds ms s d (omega (arith, lt)) in omega (arith, rest)

-- ---- runs over one automaton after another

total_take : (ms : List NfaValue) (i : ℕ) → total_reads (take i ms) ≤ total_reads ms
total_take [] zero = omega arith
total_take [] (suc i) = omega arith
total_take (m ∷ ms) zero = let all = total_cons m ms in omega (arith, all)
total_take (m ∷ ms) (suc i) = let rest = total_take ms i in let all = total_cons m ms in let some = total_cons m (take i ms) in omega (arith, rest, all, some)

module _ (nfas : List NfaValue) (i : ℕ) (m : NfaValue) (lt : i < length nfas) (is : m ≡ get_or nfas i m) where
  total_more : total_reads (take (i + 1) nfas) ≡ total_reads (take i nfas) + max_reads m
  total_more =
      let taken : take (i + 1) nfas ≡ take i nfas ++ m ∷ [] = take_more nfas i m lt ∙ ap (λ x. take i nfas ++ x ∷ []) (sym is) in
      let sum = sum_by-append max_reads (take i nfas) (m ∷ []) in omega (arith, ap total_reads taken, sum)

  -- the visits of the runs so far
  pub visits_more : (n u w v : ℕ) → v ≤ w + n * max_reads m → w ≤ u + n * total_reads (take i nfas) → v ≤ u + n * total_reads (take (i + 1) nfas)
  visits_more n u w v this before =
      let sum : n * (total_reads (take i nfas) + max_reads m) ≡ n * total_reads (take i nfas) + n * max_reads m = omega arith in
      let all = ap (λ (k : ℕ). n * k) total_more in omega (arith, this, before, sum, all)

  -- they are within those of all runs
  pub visits_within : (n u w v : ℕ) → v ≤ w + n * max_reads m → w ≤ u + n * total_reads (take i nfas) → v ≤ u + n * total_reads nfas
  visits_within n u w v this before =
      let some = visits_more n u w v this before in
      let maximum = mul-le n (total_reads (take (i + 1) nfas)) n (total_reads nfas) (omega arith) (total_take nfas (i + 1)) in omega (arith, some, maximum)

  -- it is not larger than the largest
  pub size_within : size m ≤ max_size nfas
  size_within = let bound = max_bounds nfas i m lt in omega (arith, bound, ap size is)

  pub is_at : m ≡ get_or nfas i (no_nfa 0)
  is_at = is ∙ any_default nfas i m (no_nfa 0) lt

  -- none of the automata so far, and not this one
  pub none_limit : (P : NfaValue → Type 0) → ((s : ℕ) → s < i → P (get_or nfas s (no_nfa 0)) → ⊥) → (P m → ⊥) → (s : ℕ) → s < i + 1 → P (get_or nfas s (no_nfa 0)) → ⊥
  none_limit P before this s at some =
      ⊎_elim {C = ⊥} (λ same. this (subst P (ap (λ t. get_or nfas t (no_nfa 0)) same ∙ sym is_at) some)) (λ other. before s (omega (arith, at, other)) some) (equal_or_not s i)
