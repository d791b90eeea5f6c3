-- The matcher of the globs of a list, glob by glob.
use Rattle.std.proofs.Common.{◌≡◌, ℕ, zero, suc, ◌+◌, ◌≤◌, ◌⊎◌, inl, inr, Bool, true, false, cond, List, [], ◌∷◌, ◌++◌, Result, Ok, Err, length, IsTrue, refl, ap, sym, subst, ◌∙◌, arith}
use Rattle.std.specs.Prelude.{◌↔◌, Contains, OnOk}
use Rattle.std.specs.Str.{bytes_eq}
use Rattle.std.specs.Cmp.Lexicographic.{bytes_decides}
use Rattle.std.proofs.Math.Logic.{⊎_elim}
use Rattle.std.proofs.lemmas.Bool.{cases_Bool}
use Rattle.std.proofs.lemmas.List.Sums.{sum_by-append}
use Rattle.glob_syntax.specs.declared.options.Options.{Options}
use Rattle.glob_syntax.specs.Token.{Tokens, end, and_then}
use Rattle.glob_syntax.specs.inner.Weight.{weight}
use Rattle.bit_sets.specs.Texts.{AllBytes}
use Rattle.glob_syntax.specs.After.{MeanAfter}
use Rattle.glob_syntax.specs.TokensMatch.{tokens_match, is_prefix}
use Rattle.glob_strategy.specs.IndexedTokens.{IndexedTokens, SomeMatches, indexed}
use Rattle.glob_strategy.proofs.lemmas.IndexedTokens.{none_for, some_push}
use Rattle.glob_path.specs.Below.{folder_start, path_below}
use Rattle.glob_path.specs.PathParts.{last_component, component_extension}
use Rattle.glob_strategy.specs.Below.{AreReportedBelow}
use Rattle.glob_strategy.specs.Direct.{is_direct, needs_automaton}
use Rattle.glob_strategy.specs.Strategies.{after_prefix, before_ending}
use Rattle.glob_strategy.proofs.lemmas.BeforeEnding.{weight_before}
use Rattle.set_matcher.specs.inner.TokenGlobs.{TokenGlob, is_reported, is_reported_at, reads, load, SomeReportedBelow, load_below, reads_below}
use Rattle.set_matcher.specs.inner.KeysBelow.{MatchesBelow}
use Rattle.set_matcher.specs.inner.LiteralIndex.{KeyParts, MoreIn, keys_found}
use Rattle.set_matcher.specs.inner.Automata.{AutomataParts, TokenLists, AreForLists, AreFound, AreFoundBelow, AddsTokens, before_extension, folder_reads, no_automata, no_nfa, reads_for, tokens_under}
use Rattle.set_matcher.specs.inner.Builders.{AddsTo, AddsToExtension}
use Rattle.set_matcher.specs.declared.automata.Target.TheVariants.{Path, LastComponent}
use Rattle.set_matcher.specs.inner.SetMatcher.{SetMatcherParts, IsSetMatcherOf, set_matcher_parts, listed_count}
use Rattle.set_matcher.proofs.lemmas.Automata.{extension_cut}
use Rattle.set_matcher.proofs.lemmas.Matching.{some_listed}
use Rattle.set_matcher.proofs.lemmas.ExtensionMatchers.{after_push}

-- ---- one glob more

-- the glob that was pushed has the last index
listed_push : (globs : List TokenGlob) (g : TokenGlob) (path : List ℕ) (k : ℕ)
    → IsTrue (is_reported_at (globs ++ g ∷ []) path k) ↔ (IsTrue (is_reported_at globs path k) ⊎ ((length globs ≡ k) × IsTrue (is_reported g path)))
listed_push [] g path zero = (λ h. inr (refl, h), λ h. ⊎_elim {C = IsTrue (is_reported g path)} (λ none. absurd (cc)) (λ this. this.1) h)
listed_push [] g path (suc k) = (λ none. absurd (cc), λ h. ⊎_elim {C = IsTrue false} (λ none. none) (λ this. let is = this.0 in absurd (omega (arith, is))) h)
listed_push (x ∷ xs) g path zero = (λ h. inl h, λ h. ⊎_elim {C = IsTrue (is_reported x path)} (λ this. this) (λ last. let is = last.0 in absurd (omega (arith, is))) h)
listed_push (x ∷ xs) g path (suc k) = (
  λ h. ⊎_elim {C = IsTrue (is_reported_at xs path k) ⊎ ((suc (length xs) ≡ suc k) × IsTrue (is_reported g path))}
      (λ earlier. inl earlier) (λ last. let is = last.0 in inr (omega (arith, is), last.1)) ((listed_push xs g path k).0 h),
  λ h. (listed_push xs g path k).1 (⊎_elim {C = IsTrue (is_reported_at xs path k) ⊎ ((length xs ≡ k) × IsTrue (is_reported g path))}
      (λ earlier. inl earlier) (λ last. let is = last.0 in inr (omega (arith, is), last.1)) h),
)

-- the glob of the index n is reported, and k is its index
abbrev pub IsNew : ℕ → TokenGlob → List ℕ → ℕ → Type 0
IsNew n g path k = (n ≡ k) × IsTrue (is_reported g path)

new_listed : {F G : Type 0} (globs : List TokenGlob) (g : TokenGlob) (n : ℕ) (path : List ℕ) (k : ℕ) → n ≡ length globs
    → F ↔ (G ⊎ IsNew n g path k) → G ↔ IsTrue (is_reported_at globs path k) → F ↔ IsTrue (is_reported_at (globs ++ g ∷ []) path k)
new_listed {F} {G} globs g n path k at more before =
    let push = listed_push globs g path k in (
      λ f. push.1 (⊎_elim {C = IsTrue (is_reported_at globs path k) ⊎ IsNew (length globs) g path k} (λ old. inl (before.0 old)) (λ new. inr (sym at ∙ new.0, new.1)) (more.0 f)),
      λ h. more.1 (⊎_elim {C = G ⊎ IsNew n g path k} (λ old. inl (before.1 old)) (λ new. inr (at ∙ new.0, new.1)) (push.0 h)),
    )

count_push : (globs : List TokenGlob) (g : TokenGlob) (path : List ℕ) → listed_count (globs ++ g ∷ []) path ≡ listed_count globs path + cond (is_reported g path) 1 0
count_push globs g path = sum_by-append (λ x. cond (is_reported x path) 1 0) globs (g ∷ []) ∙ omega arith

load_push : (globs : List TokenGlob) (g : TokenGlob) (path : List ℕ) → load (globs ++ g ∷ []) path ≡ load globs path + reads g path
load_push globs g path = sum_by-append (λ x. reads x path) globs (g ∷ []) ∙ omega arith

-- ---- one glob more, below a folder

pub listed_below_push : (globs : List TokenGlob) (g : TokenGlob) (folder : List ℕ)
    → SomeReportedBelow (globs ++ g ∷ []) folder ↔ (SomeReportedBelow globs folder ⊎ AreReportedBelow g.options g.tokens folder)
listed_below_push globs g folder = (
  λ (rest, bytes, some).
      let path = path_below folder rest in
      let (k, at) = (some_listed (globs ++ g ∷ []) path).0 some in
      ⊎_elim {C = SomeReportedBelow globs folder ⊎ AreReportedBelow g.options g.tokens folder}
      (λ old. inl (rest, bytes, (some_listed globs path).1 (k, old))) (λ new. inr (rest, bytes, new.1)) ((listed_push globs g path k).0 at),
  λ h. ⊎_elim {C = SomeReportedBelow (globs ++ g ∷ []) folder}
      (λ (rest, bytes, some).
      let path = path_below folder rest in
      let (k, at) = (some_listed globs path).0 some in (rest, bytes, (some_listed (globs ++ g ∷ []) path).1 (k, (listed_push globs g path k).1 (inl at))))
      (λ (rest, bytes, this).
      let path = path_below folder rest in
      let k : ℕ = length globs in (rest, bytes, (some_listed (globs ++ g ∷ []) path).1 (k, (listed_push globs g path k).1 (inr (refl, this))))) h,
)

new_below : {F G : Type 0} (globs : List TokenGlob) (g : TokenGlob) (folder : List ℕ) → F ↔ (G ⊎ AreReportedBelow g.options g.tokens folder) → G ↔ SomeReportedBelow globs folder
    → F ↔ SomeReportedBelow (globs ++ g ∷ []) folder
new_below {F} {G} globs g folder more before =
    let push = listed_below_push globs g folder in (
      λ f. push.1 (⊎_elim {C = SomeReportedBelow globs folder ⊎ AreReportedBelow g.options g.tokens folder} (λ old. inl (before.0 old)) (λ new. inr new) (more.0 f)),
      λ h. more.1 (⊎_elim {C = G ⊎ AreReportedBelow g.options g.tokens folder} (λ old. inl (before.1 old)) (λ new. inr new) (push.0 h)),
    )

load_below_push : (globs : List TokenGlob) (g : TokenGlob) → load_below (globs ++ g ∷ []) ≡ load_below globs + reads_below g
load_below_push globs g = sum_by-append (λ x. reads_below x) globs (g ∷ []) ∙ omega arith

-- what the strategy says of a folder, for what is found there beside what was
pub as_listed : {A B X L : Type 0} → A ↔ (B ⊎ X) → L ↔ X → A ↔ (B ⊎ L)
as_listed {A} {B} {X} {L} more tells = (
  λ a. ⊎_elim {C = B ⊎ L} (λ b. inl b) (λ x. inr (tells.1 x)) (more.0 a),
  λ h. more.1 (⊎_elim {C = B ⊎ X} (λ b. inl b) (λ l. inr (tells.0 l)) h),
)

-- what follows from both, if a call succeeds
pub both_on_ok : {T E P Q R : Type 0} (r : Result T E) → (P → Q → R) → OnOk r P → OnOk r Q → OnOk r R
both_on_ok (Ok x) both p q = both p q
both_on_ok (Err e) both p q = p

pub three_on_ok : {T E P Q S R : Type 0} (r : Result T E) → (P → Q → S → R) → OnOk r P → OnOk r Q → OnOk r S → OnOk r R
three_on_ok (Ok x) all p q s = all p q s
three_on_ok (Err e) all p q s = p

-- ---- one alternative more

left_more : {A B D X : Type 0} → D ↔ (A ⊎ X) → (D ⊎ B) ↔ ((A ⊎ B) ⊎ X)
left_more {A} {B} {D} {X} more = (
  λ h. ⊎_elim {C = (A ⊎ B) ⊎ X} (λ d. ⊎_elim {C = (A ⊎ B) ⊎ X} (λ a. inl (inl a)) (λ x. inr x) (more.0 d)) (λ b. inl (inr b)) h,
  λ h. ⊎_elim {C = D ⊎ B} (λ ab. ⊎_elim {C = D ⊎ B} (λ a. inl (more.1 (inl a))) (λ b. inr b) ab) (λ x. inl (more.1 (inr x))) h,
)

right_more : {A B D X : Type 0} → D ↔ (B ⊎ X) → (A ⊎ D) ↔ ((A ⊎ B) ⊎ X)
right_more {A} {B} {D} {X} more = (
  λ h. ⊎_elim {C = (A ⊎ B) ⊎ X} (λ a. inl (inl a)) (λ d. ⊎_elim {C = (A ⊎ B) ⊎ X} (λ b. inl (inr b)) (λ x. inr x) (more.0 d)) h,
  λ h. ⊎_elim {C = A ⊎ D} (λ ab. ⊎_elim {C = A ⊎ D} (λ a. inl a) (λ b. inr (more.1 (inl b))) ab) (λ x. inr (more.1 (inr x))) h,
)

-- ---- a key more

pub keys_added : (globs : List TokenGlob) (g : TokenGlob) (n : ℕ) (old new : SetMatcherParts) → n ≡ length globs → new.automata ≡ old.automata
    → ((path : List ℕ) → MoreIn (keys_found old.keys path) (keys_found new.keys path) n (is_reported g path))
    → ((folder : List ℕ) → AllBytes folder → MatchesBelow new.keys folder ↔ (MatchesBelow old.keys folder ⊎ AreReportedBelow g.options g.tokens folder)) → IsSetMatcherOf globs old → IsSetMatcherOf (globs ++ g ∷ []) new
keys_added globs g n old new at automata more below before = record {
  tokens = before.tokens;
  are_for = subst (λ a. AreForLists a before.tokens) (sym automata) before.are_for;
  same = λ path k. new_listed globs g n path k at
      (subst (λ (a : AutomataParts). (Contains (keys_found new.keys path) k ⊎ AreFound a.extensions.slots before.tokens path k)
      ↔ ((Contains (keys_found old.keys path) k ⊎ AreFound old.automata.extensions.slots before.tokens path k) ⊎ IsNew n g path k)) (sym automata) (left_more ((more path).has k)))
      (before.same path k);
  once = λ path. omega (arith, (more path).count, before.once path, count_push globs g path);
  reads = λ path. let same = ap (λ a. reads_for a path) automata in omega (arith, same, before.reads path, load_push globs g path);
  below = λ folder bytes. new_below globs g folder
      (subst (λ (a : AutomataParts). (MatchesBelow new.keys folder ⊎ AreFoundBelow a.extensions before.tokens folder)
      ↔ ((MatchesBelow old.keys folder ⊎ AreFoundBelow old.automata.extensions before.tokens folder) ⊎ AreReportedBelow g.options g.tokens folder)) (sym automata) (left_more (below folder bytes)))
      (before.below folder bytes);
  few_below = let same = ap (λ a. folder_reads a) automata in omega (arith, same, before.few_below, load_below_push globs g);
}

pub key_added : (globs : List TokenGlob) (g : TokenGlob) (n : ℕ) (old new : KeyParts) (a : AutomataParts) → n ≡ length globs
    → ((path : List ℕ) → MoreIn (keys_found old path) (keys_found new path) n (is_reported g path))
    → ((folder : List ℕ) → AllBytes folder → MatchesBelow new folder ↔ (MatchesBelow old folder ⊎ AreReportedBelow g.options g.tokens folder)) → IsSetMatcherOf globs (set_matcher_parts old a) → IsSetMatcherOf (globs ++ g ∷ []) (set_matcher_parts new a)
key_added globs g n old new a at more below before = keys_added globs g n (set_matcher_parts old a) (set_matcher_parts new a) at refl more below before

none_more : (xs : List ℕ) (n : ℕ) (m : Bool) → m ≡ false → MoreIn xs xs n m
none_more xs n m off = record {
  has = λ k. (λ h. inl h, λ h. ⊎_elim {C = Contains xs k} (λ old. old) (λ new. let yes = new.1 in absurd (cc)) h);
  count = omega arith;
}

pub excluded_added : (globs : List TokenGlob) (g : TokenGlob) (n : ℕ) (old : SetMatcherParts) → n ≡ length globs → ((path : List ℕ) → is_reported g path ≡ false)
    → ((folder : List ℕ) → AllBytes folder → AreReportedBelow g.options g.tokens folder → ⊥) → IsSetMatcherOf globs old → IsSetMatcherOf (globs ++ g ∷ []) old
excluded_added globs g n old at tells none before =
    keys_added globs g n old old at refl (λ path. none_more (keys_found old.keys path) n (is_reported g path) (tells path))
    (λ folder bytes. (λ h. inl h, λ h. ⊎_elim {C = MatchesBelow old.keys folder} (λ was. was) (λ new. absurd (none folder bytes new)) h)) before

-- ---- tokens more

-- tokens more, which match the part of the path just if the glob is reported
some_added : (x : IndexedTokens) (xs : List IndexedTokens) (g : TokenGlob) (n : ℕ) (text path : List ℕ) (k : ℕ) → x.index ≡ n → is_reported g path ≡ tokens_match x.options x.tokens text
    → SomeMatches (xs ++ x ∷ []) text k ↔ (SomeMatches xs text k ⊎ IsNew n g path k)
some_added x xs g n text path k at tells =
    let push = some_push x xs text k in (
      λ h. ⊎_elim {C = SomeMatches xs text k ⊎ IsNew n g path k} (λ old. inl old) (λ new. inr (sym at ∙ new.0, tells ∙ new.1)) (push.0 h),
      λ h. push.1 (⊎_elim {C = SomeMatches xs text k ⊎ ((x.index ≡ k) × IsTrue (tokens_match x.options x.tokens text))} (λ old. inl old) (λ new. inr (at ∙ new.0, sym tells ∙ new.1)) h),
    )

needed : (g : TokenGlob) (path : List ℕ) → needs_automaton g.options g.tokens path ≡ true → reads g path ≡ weight g.options g.tokens + 4
needed g path on = ap (λ b. cond b (weight g.options g.tokens + 4) 0) on

needed_below : (g : TokenGlob) → is_direct g.options g.tokens ≡ false → reads_below g ≡ weight g.options g.tokens + 4
needed_below g off = ap (λ b. cond b 0 (weight g.options g.tokens + 4)) off

pub weight_after : (o : Options) (ts : Tokens) → weight o (after_prefix ts) ≤ weight o ts
weight_after o end = omega arith
weight_after o (and_then t ts) = choice (is_prefix t)
  where
    choice : (b : Bool) → weight o (cond b ts (and_then t ts)) ≤ weight o (and_then t ts)
    choice true = omega arith
    choice false = omega arith

module _ (globs : List TokenGlob) (g : TokenGlob) (n : ℕ) (at : n ≡ length globs) (keys : KeyParts) (old : AutomataParts) (before : IsSetMatcherOf globs (set_matcher_parts keys old)) where
  tokens_added : (new : AutomataParts) (tokens : TokenLists) → AreForLists new tokens
      → ((path : List ℕ) (k : ℕ) → AreFound new.extensions.slots tokens path k ↔ (AreFound old.extensions.slots before.tokens path k ⊎ IsNew n g path k))
      → ((path : List ℕ) → reads_for new path ≤ reads_for old path + reads g path)
      → ((folder : List ℕ) → AllBytes folder → AreFoundBelow new.extensions tokens folder ↔ (AreFoundBelow old.extensions before.tokens folder ⊎ AreReportedBelow g.options g.tokens folder))
      → folder_reads new ≤ folder_reads old + reads_below g → IsSetMatcherOf (globs ++ g ∷ []) (set_matcher_parts keys new)
  tokens_added new tokens are more size below few = record {
    tokens = tokens;
    are_for = are;
    same = λ path k. new_listed globs g n path k at (right_more (more path k)) (before.same path k);
    once = λ path. omega (arith, before.once path, count_push globs g path);
    reads = λ path. omega (arith, size path, before.reads path, load_push globs g path);
    below = λ folder bytes. new_below globs g folder (right_more (below folder bytes)) (before.below folder bytes);
    few_below = omega (arith, few, before.few_below, load_below_push globs g);
  }

  pub by_path_added : (new : AutomataParts) → AddsTo Path old new (indexed g.options g.tokens n)
      → ((path : List ℕ) → is_reported g path ≡ tokens_match g.options g.tokens path) → ((path : List ℕ) → needs_automaton g.options g.tokens path ≡ true) → is_direct g.options g.tokens ≡ false
      → ((folder : List ℕ) → AllBytes folder → AreReportedBelow g.options g.tokens folder ↔ MeanAfter g.options g.tokens (folder_start folder)) → IsSetMatcherOf (globs ++ g ∷ []) (set_matcher_parts keys new)
  by_path_added new (adds, others) tells needs indirect sound_below =
      let x = indexed g.options g.tokens n in
      let xs = before.tokens.by_path in
      let few = adds.reads in
      subst (λ a. IsSetMatcherOf (globs ++ g ∷ []) (set_matcher_parts keys a)) (sym others)
      (tokens_added (record old { by_path = new.by_path }) (record before.tokens { by_path = xs ++ x ∷ [] })
      (record { path = adds.tokens xs before.are_for.path; component = before.are_for.component; matchers = before.are_for.matchers })
      (λ path k. left_more (some_added x xs g n path path k refl (tells path)))
      (λ path. let maximum = needed g path (needs path) in omega (arith, few, maximum))
      (λ folder bytes. right_more (left_more (as_listed (after_push xs x (folder_start folder)) (sound_below folder bytes))))
      (let maximum = needed_below g indirect in omega (arith, few, maximum)))

  pub by_component_added : (new : AutomataParts) → AddsTo LastComponent old new (indexed g.options (after_prefix g.tokens) n)
      → ((path : List ℕ) → is_reported g path ≡ tokens_match g.options (after_prefix g.tokens) (last_component path)) → ((path : List ℕ) → needs_automaton g.options g.tokens path ≡ true)
      → ((folder : List ℕ) → AllBytes folder → AreReportedBelow g.options g.tokens folder ↔ MeanAfter g.options (after_prefix g.tokens) []) → IsSetMatcherOf (globs ++ g ∷ []) (set_matcher_parts keys new)
  by_component_added new (adds, others) tells needs sound_below =
      let x = indexed g.options (after_prefix g.tokens) n in
      let xs = before.tokens.by_component in
      let few = adds.reads in
      subst (λ a. IsSetMatcherOf (globs ++ g ∷ []) (set_matcher_parts keys a)) (sym others)
      (tokens_added (record old { by_component = new.by_component }) (record before.tokens { by_component = xs ++ x ∷ [] })
      (record { path = before.are_for.path; component = adds.tokens xs before.are_for.component; matchers = before.are_for.matchers })
      (λ path k. right_more (left_more (some_added x xs g n (last_component path) path k refl (tells path))))
      (λ path. let maximum = needed g path (needs path) in let fewer = weight_after g.options g.tokens in omega (arith, few, maximum, fewer))
      (λ folder bytes. left_more (as_listed (after_push xs x []) (sound_below folder bytes)))
      (omega arith))

  pub by_extension_added : (key : List ℕ) (new : AutomataParts)
      → AddsToExtension key old.extensions new.extensions (indexed g.options (before_ending g.tokens) n) × (new ≡ record old { extensions = new.extensions })
      → ((path : List ℕ) → (IsTrue (is_reported g path) → component_extension path ≡ key) × ((front : List ℕ) → front ++ key ≡ path → is_reported g path ≡ tokens_match g.options (before_ending g.tokens) front))
      → ((path : List ℕ) → bytes_eq key (component_extension path) ≡ true → needs_automaton g.options g.tokens path ≡ true) → is_direct g.options g.tokens ≡ false
      → ((folder : List ℕ) → AllBytes folder → AreReportedBelow g.options g.tokens folder ↔ MeanAfter g.options (before_ending g.tokens) (folder_start folder)) → IsSetMatcherOf (globs ++ g ∷ []) (set_matcher_parts keys new)
  by_extension_added key new (adds, others) tells needs indirect sound_below =
      subst (λ a. IsSetMatcherOf (globs ++ g ∷ []) (set_matcher_parts keys a)) (sym others)
      (tokens_added (record old { extensions = new.extensions }) (record before.tokens { by_slot = now.tokens })
      (record { path = before.are_for.path; component = before.are_for.component; matchers = now.are_for })
      (λ path k. right_more (right_more (by_key path k (cases_Bool (bytes_eq key (component_extension path))))))
      (λ path. by_size path (cases_Bool (bytes_eq key (component_extension path))))
      (λ folder bytes. right_more (right_more (as_listed (now.after (folder_start folder)) (sound_below folder bytes))))
      (let many = adds.total in let maximum = needed_below g indirect in let fewer = weight_before g.options g.tokens in omega (arith, many, maximum, fewer)))
    where
      x : IndexedTokens
      x = indexed g.options (before_ending g.tokens) n

      now : AddsTokens old.extensions before.tokens.by_slot new.extensions key x
      now = adds.tokens before.tokens.by_slot before.are_for.matchers

      by_key : (path : List ℕ) (k : ℕ) → (bytes_eq key (component_extension path) ≡ true) ⊎ (bytes_eq key (component_extension path) ≡ false)
          → SomeMatches (tokens_under now.tokens new.extensions.slots (component_extension path)) (before_extension path) k
          ↔ (SomeMatches (tokens_under before.tokens.by_slot old.extensions.slots (component_extension path)) (before_extension path) k ⊎ IsNew n g path k)
      by_key path k h =
          let e = component_extension path in
          let text : List ℕ = before_extension path in
          let was = tokens_under before.tokens.by_slot old.extensions.slots e in
          ⊎_elim {C = SomeMatches (tokens_under now.tokens new.extensions.slots e) text k ↔ (SomeMatches was text k ⊎ IsNew n g path k)}
          (λ y.
          let cut : text ++ key ≡ path = ap (λ l. text ++ l) ((bytes_decides key e).0 y) ∙ extension_cut path in
          subst (λ xs. SomeMatches xs text k ↔ (SomeMatches was text k ⊎ IsNew n g path k)) (sym (now.added e (sym ((bytes_decides key e).0 y))))
          (some_added x was g n text path k refl ((tells path).1 text cut)))
          (λ off. subst (λ xs. SomeMatches xs text k ↔ (SomeMatches was text k ⊎ IsNew n g path k)) (sym (now.others e (λ is. let y = (bytes_decides key e).1 (sym is) in absurd (cc)))) (
            (λ some. inl some),
            (λ either. ⊎_elim {C = SomeMatches was text k} (λ some. some) (λ new. let is = (tells path).0 new.1 in let y = (bytes_decides key e).1 (sym is) in absurd (cc)) either),
          )) h

      by_size : (path : List ℕ) → (bytes_eq key (component_extension path) ≡ true) ⊎ (bytes_eq key (component_extension path) ≡ false)
          → reads_for (record old { extensions = new.extensions }) path ≤ reads_for old path + reads g path
      by_size path h =
          let e = component_extension path in
          let maximum = adds.reads e in
          let fewer = weight_before g.options g.tokens in
          ⊎_elim {C = reads_for (record old { extensions = new.extensions }) path ≤ reads_for old path + reads g path}
          (λ y. let run = needed g path (needs path y) in let three = ap (λ b. cond b (weight g.options (before_ending g.tokens) + 4) 0) y in omega (arith, maximum, run, three, fewer))
          (λ off. let three = ap (λ b. cond b (weight g.options (before_ending g.tokens) + 4) 0) off in omega (arith, maximum, three)) h

-- ---- no globs

not_in_none : (xs : List ℕ) (k : ℕ) → xs ≡ [] → Contains xs k → ⊥
not_in_none xs k e (i, lt, is) = let n = ap length e in omega (arith, lt, n)

none_listed : (path : List ℕ) (k : ℕ) → IsTrue (is_reported_at [] path k) → ⊥
none_listed path zero h = absurd (cc)
none_listed path (suc k) h = absurd (cc)

none_below : (folder : List ℕ) → SomeReportedBelow [] folder → ⊥
none_below folder (rest, bytes, some) = let (k, at) = (some_listed [] (path_below folder rest)).0 some in none_listed (path_below folder rest) k at

pub no_globs : (keys : KeyParts) (n : ℕ) → ((path : List ℕ) → keys_found keys path ≡ []) → ((folder : List ℕ) → MatchesBelow keys folder → ⊥) → IsSetMatcherOf [] (set_matcher_parts keys (no_automata n))
no_globs keys n nil no_folder = record {
  tokens = record { by_path = []; by_component = []; by_slot = λ s. [] };
  are_for = record {
    path = none_for (no_nfa n) refl;
    component = none_for (no_nfa n) refl;
    matchers = λ s d lt. absurd (omega (arith, lt));
  };
  same = λ path k. (
    λ h. absurd (⊎_elim {C = ⊥} (λ key. not_in_none (keys_found keys path) k (nil path) key)
        (λ some. ⊎_elim {C = ⊥} (λ none. none) (λ later. ⊎_elim {C = ⊥} (λ none. none) (λ none. none) later) some) h),
    λ h. absurd (none_listed path k h),
  );
  once = λ path. let none = ap length (nil path) in omega (arith, none);
  reads = λ path. omega arith;
  below = λ folder bytes. (
    λ h. absurd (⊎_elim {C = ⊥} (λ key. no_folder folder key)
        (λ some. ⊎_elim {C = ⊥} (λ none. none) (λ later. ⊎_elim {C = ⊥} (λ none. none) (λ slot. slot.2) later) some) h),
    λ h. absurd (none_below folder h),
  );
  few_below = omega arith;
}
