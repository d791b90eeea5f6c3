-- Tokens that share an automaton.
use Rattle.std.proofs.Common.{◌≡◌, ℕ, ◌<◌, ◌≤◌, ◌⊎◌, inl, inr, true, false, ◌||◌, List, [], ◌∷◌, ◌++◌, length, slice_index, refl, ap, sym, ◌∙◌, subst, arith}
use Rattle.std.specs.Prelude.{◌↔◌}
use Rattle.std.proofs.Math.Logic.{⊎_elim}
use Rattle.glob_syntax.specs.declared.options.Options.{Options}
use Rattle.glob_syntax.specs.Token.{Tokens}
use Rattle.glob_syntax.specs.inner.Weight.{weight}
use Rattle.glob_syntax.specs.TokenMatches.{tokens_match_each}
use Rattle.glob_syntax.specs.TokensMatch.{tokens_match, is_prefix_alone}
use Rattle.byte_nfa.specs.Steps.{state, loop_state, match_state, HasNumber, Accepts, NfaValue, IsReached}
use Rattle.byte_nfa.specs.Building.{Agrees, Pushes, Grows}
use Rattle.bit_sets.specs.declared.byte_set.ByteSet.{ByteSet}
use Rattle.byte_nfa.specs.Live.{MatchesAfter}
use Rattle.byte_nfa.specs.Leading.{is_any_byte}
use Rattle.bit_sets.specs.Bytes.{IsSetOf}
use Rattle.glob_strategy.specs.inner.Building.{Builds, BuildsWhole}
use Rattle.bit_sets.specs.Texts.{AllBytes}
use Rattle.bit_sets.proofs.lemmas.Texts.{all_bytes, both_bytes}
use Rattle.glob_path.specs.Below.{folder_start}
use Rattle.glob_strategy.specs.IndexedTokens.{IndexedTokens, indexed, Matches, SomeMatches, SomeMeanAfter, IsFor}
use Rattle.bit_sets.proofs.lemmas.Booleans.{or_first}
use Rattle.byte_nfa.proofs.lemmas.Growing.{agrees_old, agrees_higher, in_push}
use Rattle.glob_syntax.proofs.lemmas.TokenLists.{alone_is}
use Rattle.glob_strategy.proofs.lemmas.TokenStates.{tokens_accept, everything_accepts}

-- ---- the tokens of one glob

-- by the states of each
pub whole_built : (o : Options) (ts : Tokens) (j : ℕ) (old mid new : NfaValue) (s e : ℕ)
    → is_prefix_alone ts ≡ false → Pushes old mid e (match_state j) → Grows mid new → Builds o ts mid.states new.states s e → BuildsWhole o ts j old.states new.states s
whole_built o ts j old mid new s e alone p grows builds = λ a agrees path k bytes.
    let more : length old.states ≤ length mid.states = omega (arith, p.len) in
    let at : state a e ≡ match_state j = p.adds a (length old.states) (omega arith) (agrees_old a mid.states new.states (length old.states) grows.keeps agrees) in
    let one = tokens_accept a o ts s e j k path bytes (builds a (agrees_higher a new.states (length old.states) (length mid.states) more agrees)) at in
    let same : tokens_match o ts path ≡ tokens_match_each o ts path = ap (λ q. q || tokens_match_each o ts path) alone in (
      λ h. let (is, all) = one.0 h in (is, same ∙ all),
      λ (is, m). one.1 (is, sym same ∙ m),
    )

-- `**` alone
pub everything_built : (o : Options) (ts : Tokens) (j : ℕ) (old mid new : NfaValue) (w : ByteSet) (s e : ℕ)
    → is_prefix_alone ts ≡ true → Pushes old mid e (match_state j) → Pushes mid new s (loop_state w (e ∷ [])) → IsSetOf is_any_byte w → BuildsWhole o ts j old.states new.states s
everything_built o ts j old mid new w s e alone p q set = λ a agrees path k bytes.
    let more : length old.states ≤ length mid.states = omega (arith, p.len) in
    let at : state a e ≡ match_state j = p.adds a (length old.states) (omega arith) (agrees_old a mid.states new.states (length old.states) q.keeps agrees) in
    let here : state a s ≡ loop_state w (e ∷ []) = q.adds a (length old.states) more agrees in
    let one = everything_accepts a s e j k path bytes (w, here, set) at in (
      λ h. (one.0 h, or_first (is_prefix_alone ts) (tokens_match_each o ts path) alone),
      λ (is, m). one.1 is,
    )

-- they have some weight
pub alone_weight : (o : Options) (ts : Tokens) → is_prefix_alone ts ≡ true → 1 ≤ weight o ts
alone_weight o ts h = rw (alone_is ts h) (omega arith)

-- ---- the tokens of one glob more

pub some_push : (x : IndexedTokens) (xs : List IndexedTokens) (path : List ℕ) (k : ℕ) → SomeMatches (xs ++ x ∷ []) path k ↔ (SomeMatches xs path k ⊎ Matches x path k)
some_push x [] path k = (λ h. ⊎_elim {C = ⊥ ⊎ Matches x path k} (λ this. inr this) (λ no. absurd no) h, λ h. ⊎_elim {C = Matches x path k ⊎ ⊥} (λ no. absurd no) (λ this. inl this) h)
some_push x (y ∷ ys) path k = (
  λ h. ⊎_elim {C = (Matches y path k ⊎ SomeMatches ys path k) ⊎ Matches x path k}
      (λ here. inl (inl here))
      (λ later. ⊎_elim {C = (Matches y path k ⊎ SomeMatches ys path k) ⊎ Matches x path k} (λ earlier. inl (inr earlier)) (λ last. inr last) ((some_push x ys path k).0 later)) h,
  λ h. ⊎_elim {C = Matches y path k ⊎ SomeMatches (ys ++ x ∷ []) path k}
      (λ front. ⊎_elim {C = Matches y path k ⊎ SomeMatches (ys ++ x ∷ []) path k} (λ here. inl here) (λ earlier. inr ((some_push x ys path k).1 (inl earlier))) front)
      (λ last. inr ((some_push x ys path k).1 (inr last))) h,
)

pub none_for : (m : NfaValue) → m.starts ≡ [] → IsFor m []
none_for m is = λ a agrees path k bytes. (λ (s, at, h). subst (HasNumber s) is at, λ h. absurd h)

-- states that were added and that nothing leads to change nothing
pub still_for : (old new : NfaValue) (xs : List IndexedTokens) → Grows old new → IsFor old xs → IsFor new xs
still_for old new xs grows is = λ a agrees path k bytes.
    let before = is a (agrees_old a old.states new.states 0 grows.keeps agrees) path k bytes in (
      λ (s, at, h). before.0 (s, subst (HasNumber s) grows.starts at, h),
      λ some. let (s, at, h) = before.1 some in (s, subst (HasNumber s) (sym grows.starts) at, h),
    )

pub one_more : (o : Options) (ts : Tokens) (j : ℕ) (old mid new : NfaValue) (s : ℕ) (xs : List IndexedTokens)
    → Grows old mid → BuildsWhole o ts j old.states mid.states s → new.states ≡ mid.states → new.starts ≡ mid.starts ++ s ∷ []
    → IsFor old xs → IsFor new (xs ++ indexed o ts j ∷ [])
one_more o ts j old mid new s xs grows built states starts before = λ a agrees' path k bytes.
    let agrees : Agrees a mid.states 0 (length mid.states) = subst (λ l. Agrees a l 0 (length l)) states agrees' in
    let starts' : new.starts ≡ old.starts ++ s ∷ [] = starts ∙ ap (λ l. l ++ s ∷ []) grows.starts in
    let one = built a (agrees_higher a mid.states 0 (length old.states) (omega arith) agrees) path k bytes in
    let others = before a (agrees_old a old.states mid.states 0 grows.keeps agrees) path k bytes in
    let this = indexed o ts j in (
      λ (t, at, h). ⊎_elim {C = SomeMatches (xs ++ this ∷ []) path k}
          (λ earlier. (some_push this xs path k).1 (inl (others.0 (t, earlier, h))))
          (λ is. (some_push this xs path k).1 (inr (one.0 (subst (λ u. Accepts a k u path) is h))))
          ((in_push t s old.starts).0 (subst (HasNumber t) starts' at)),
      λ some. ⊎_elim {C = (t : ℕ) × HasNumber t new.starts × Accepts a k t path}
          (λ earlier. let (t, at, h) = others.1 earlier in (t, subst (HasNumber t) (sym starts') ((in_push t s old.starts).1 (inl at)), h))
          (λ this_one. (s, subst (HasNumber s) (sym starts') ((in_push s s old.starts).1 (inr refl)), one.1 this_one))
          ((some_push this xs path k).0 some),
    )

-- ---- runs

-- what a run reaches is what the tokens match
pub reached_matches : (m : NfaValue) (xs : List IndexedTokens) (path : List ℕ) (k : ℕ) → IsFor m xs → AllBytes path → IsReached m path k ↔ SomeMatches xs path k
reached_matches m xs path k is bytes = is m.states (λ s low high. refl) path k bytes

-- whether a run reaches anything is whether some tokens match
pub has_matches : (m : NfaValue) (xs : List IndexedTokens) (path : List ℕ) → IsFor m xs → AllBytes path → ((k : ℕ) × IsReached m path k) ↔ ((k : ℕ) × SomeMatches xs path k)
has_matches m xs path is bytes = (
  λ (k, reached). (k, (reached_matches m xs path k is bytes).0 reached),
  λ (k, matched). (k, (reached_matches m xs path k is bytes).1 matched),
)

-- ---- paths with a beginning

some_after : (xs : List IndexedTokens) (y rest : List ℕ) (k : ℕ) → AllBytes rest → SomeMatches xs (y ++ rest) k → SomeMeanAfter xs y
some_after [] y rest k bytes h = absurd h
some_after (x ∷ xs) y rest k bytes (inl (is, h)) = inl (rest, bytes, h)
some_after (x ∷ xs) y rest k bytes (inr h) = inr (some_after xs y rest k bytes h)

after_some : (xs : List IndexedTokens) (y : List ℕ) → SomeMeanAfter xs y → (k : ℕ) × (rest : List ℕ) × AllBytes rest × SomeMatches xs (y ++ rest) k
after_some [] y h = absurd h
after_some (x ∷ xs) y (inl (rest, bytes, h)) = (x.index, rest, bytes, inl (refl, h))
after_some (x ∷ xs) y (inr h) = let (k, rest, bytes, g) = after_some xs y h in (k, rest, bytes, inr g)

-- whether some text that begins so leads to an end is whether some tokens match some path that begins so
pub after_matches : (m : NfaValue) (xs : List IndexedTokens) (y : List ℕ) → IsFor m xs → AllBytes y → MatchesAfter m y ↔ SomeMeanAfter xs y
after_matches m xs y is begun =
    let same : (rest : List ℕ) (k : ℕ) → AllBytes rest → IsReached m (y ++ rest) k ↔ SomeMatches xs (y ++ rest) k = λ rest k all. reached_matches m xs (y ++ rest) k is (both_bytes y rest begun all) in (
      λ (k, rest, all, reached). some_after xs y rest k all ((same rest k all).0 reached),
      λ h. let (k, rest, all, matched) = after_some xs y h in (k, rest, all, (same rest k all).1 matched),
    )

pub start_bytes : (folder : List ℕ) → ((i : ℕ) → slice_index folder i < 256) → AllBytes (folder_start folder)
start_bytes folder bytes = both_bytes folder (47 ∷ []) (all_bytes folder bytes) (omega arith, tt)
