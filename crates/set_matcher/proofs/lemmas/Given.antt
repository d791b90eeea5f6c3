-- The globs of a set, which a matcher knows by their tokens.
use Rattle.std.proofs.Common.{◌≡◌, ℕ, zero, suc, ◌+◌, ◌*◌, ◌<◌, ◌≤◌, List, [], ◌∷◌, ◌++◌, Bool, true, false, cond, length, length-append, map, refl, ap, sym, subst, ◌∙◌, arith}
use Rattle.std.specs.Prelude.{◌↔◌, IsTrue, filter, sum_by}
use Rattle.std.specs.List.{range_with_len}
use Rattle.std.proofs.lemmas.List.{length-map}
use Rattle.std.proofs.lemmas.List.Elements.{All-nil, All-push}
use Rattle.std.proofs.lemmas.List.Sums.{sum_by_push}
use Rattle.glob_syntax.specs.StatesPerByte.{states_per_byte}
use Rattle.glob_syntax.specs.Token.{Tokens}
use Rattle.glob_syntax.specs.inner.Weight.{weight}
use Rattle.glob_path.specs.Below.{path_below}
use Rattle.set_matcher.specs.inner.LiteralIndex.{KeyParts}
use Rattle.glob_strategy.specs.Direct.{is_direct, needs_automaton}
use Rattle.glob_text.specs.Cost.{cost}
use Rattle.glob_text.specs.GlobMatches.{GlobValue, IsRead, glob_matches, tokens_of_glob}
use Rattle.set_matcher.specs.Answer.{matching_indexes}
use Rattle.set_matcher.specs.Below.{MatchesBelow}
use Rattle.set_matcher.specs.Excluded.{excluded, is_reported}
use Rattle.set_matcher.specs.Indexes.{ContainsAllBelow, passes_at}
use Rattle.set_matcher.specs.Work as work
use Rattle.set_matcher.specs.inner.Automata.{AutomataParts, folder_reads, reads_for}
use Rattle.set_matcher.specs.inner.SetMatcher.{AddsGlob, IsMatcherOf, IsSetMatcherOf, SetMatcherParts, set_matcher_parts}
use Rattle.set_matcher.specs.inner.TokenGlobs as tokens
use Rattle.set_matcher.specs.inner.TokenGlobs.{TokenGlob, by_tokens, reported_indexes, token_glob, token_globs, SomeReportedBelow, load_below, reads_below}
use Rattle.set_matcher.proofs.lemmas.Below.{below_visits}
use Rattle.set_matcher.proofs.lemmas.Visits.{with_keys}

-- there is one by its tokens for each
pub globs_count : (given : List GlobValue) → length (token_globs given) ≡ length given
globs_count given = length-map given by_tokens

-- ---- answers

same_reported : (g : GlobValue) (path : List ℕ) → tokens.is_reported (by_tokens g) path ≡ is_reported g path
unfolding excluded glob_matches
same_reported g path = refl

passes_of : {X Y : Type 0} (f : X → Y) (p : Y → Bool) (q : X → Bool) → ((x : X) → p (f x) ≡ q x) → (xs : List X) (i : ℕ) → passes_at p (map f xs) i ≡ passes_at q xs i
passes_of f p q same [] i = refl
passes_of f p q same (x ∷ xs) zero = same x
passes_of f p q same (x ∷ xs) (suc i) = passes_of f p q same xs i

reported_are_matching : (globs : List GlobValue) (path : List ℕ) → reported_indexes (token_globs globs) path ≡ matching_indexes globs path
unfolding matching_indexes
reported_are_matching globs path =
    let at = passes_of by_tokens (λ g. tokens.is_reported g path) (λ g. is_reported g path) (λ g. same_reported g path) globs in
    (λ i. filter (λ k. at k i) (range_with_len 0 (length-map globs by_tokens i)))

-- the indexes that are found by tokens are those of the answer
pub found_is : {given globs : List GlobValue} {text path : List ℕ} → given ≡ globs → text ≡ path → reported_indexes (token_globs given) text ≡ matching_indexes globs path
found_is {given} {globs} {text} {path} is same =
    reported_are_matching given text ∙ ap (λ p. matching_indexes given p) same ∙ ap (λ (gs : List GlobValue). matching_indexes gs path) is

-- whether all of them are found
pub all_is : {given globs : List GlobValue} {text path : List ℕ} (r : Bool) → given ≡ globs → text ≡ path
    → IsTrue r ↔ ContainsAllBelow (reported_indexes (token_globs given) text) (length (token_globs given)) → IsTrue r ↔ ContainsAllBelow (matching_indexes globs path) (length globs)
all_is {given} {globs} {text} {path} r is same all =
    subst (λ (n : ℕ). IsTrue r ↔ ContainsAllBelow (matching_indexes globs path) n) (globs_count given ∙ ap length is)
    (subst (λ (xs : List ℕ). IsTrue r ↔ ContainsAllBelow xs (length (token_globs given))) (found_is is same) all)

-- whether some is found below a folder
pub below_is : {given globs : List GlobValue} (folder : List ℕ) (r : Bool) → given ≡ globs → IsTrue r ↔ SomeReportedBelow (token_globs given) folder → IsTrue r ↔ MatchesBelow globs folder
below_is {given} {globs} folder r is found =
    subst (λ (gs : List GlobValue). IsTrue r ↔ MatchesBelow gs folder) is (
      (λ yes. let (rest, bytes, some) = found.0 yes in (rest, bytes, λ none. some (reported_are_matching given (path_below folder rest) ∙ none))),
      (λ (rest, bytes, some). found.1 (rest, bytes, λ none. some (sym (reported_are_matching given (path_below folder rest)) ∙ none))),
    )

-- ---- visits

-- the visits for a path, by keys and by automata that are run over it
pub with_stored : (given globs : List GlobValue) (g : SetMatcherParts) (path text : List ℕ) (now v : ℕ) → given ≡ globs → text ≡ path → IsSetMatcherOf (token_globs given) g
    → ((p : List ℕ) → tokens.load (token_globs given) p ≤ work.load given p)
    → v ≤ now + (3 + 2 * (length text + 1)) + (1 + (length text + 1) * reads_for g.automata text) → v ≤ now + work.max_set_visits globs path
with_stored given globs g path text now v is same matcher size run =
    let few = matcher.reads text in
    let costs = size text in
    subst (λ p. v ≤ now + work.max_set_visits globs p) same (subst (λ (gs : List GlobValue). v ≤ now + work.max_set_visits gs text) is
    (with_keys (length text) (length text) (reads_for g.automata text) (work.load given text) now v refl (omega (arith, few, costs)) run))

-- the visits for a folder
pub below_stored : (given globs : List GlobValue) (g : SetMatcherParts) (folder : List ℕ) (now v w : ℕ) → given ≡ globs → IsSetMatcherOf (token_globs given) g
    → load_below (token_globs given) ≤ work.load_below given → v ≤ now + (length folder + 2)
    → w ≤ v + (length folder + 2) * folder_reads g.automata → w ≤ now + work.max_set_visits_below globs folder
below_stored given globs g folder now v w is matcher size keys run =
    let few = matcher.few_below in
    subst (λ (gs : List GlobValue). w ≤ now + work.max_set_visits_below gs folder) is
    (below_visits (length folder) (folder_reads g.automata) (work.load_below given) now v w (omega (arith, few, size)) keys run)

-- ---- no globs, and one more

-- nothing is stored for no globs
pub no_matcher : (given : List GlobValue) (keys : KeyParts) (a : AutomataParts) → given ≡ [] → IsSetMatcherOf [] (set_matcher_parts keys a) → IsMatcherOf given 0 keys a
no_matcher given keys a none matcher =
    subst (λ (gs : List GlobValue). IsMatcherOf gs 0 keys a) (sym none) (record {
      read = All-nil IsRead;
      matcher = matcher;
      size = λ path. omega arith;
      size_below = omega arith;
      counted = refl;
      indexed = omega arith;
    })

map_push : (globs : List GlobValue) (g : GlobValue) → token_globs (globs ++ g ∷ []) ≡ token_globs globs ++ by_tokens g ∷ []
map_push [] g = refl
map_push (x ∷ xs) g = ap (λ (l : List TokenGlob). by_tokens x ∷ l) (map_push xs g)

cond_first : (b : Bool) (m n : ℕ) → m ≤ n → cond b m 0 ≤ cond b n 0
cond_first true m n h = h
cond_first false m n h = omega arith

cond_second : (b : Bool) (m n : ℕ) → m ≤ n → cond b 0 m ≤ cond b 0 n
cond_second true m n h = omega arith
cond_second false m n h = h

-- sums over one more at the end, of which the summand is within
sum_push : (f : TokenGlob → ℕ) (h : GlobValue → ℕ) (globs : List GlobValue) (g : GlobValue)
    → f (by_tokens g) ≤ h g → sum_by f (token_globs globs) ≤ sum_by h globs → sum_by f (token_globs (globs ++ g ∷ [])) ≤ sum_by h (globs ++ g ∷ [])
sum_push f h globs g one all =
    let left = ap (sum_by f) (map_push globs g) ∙ sum_by_push f (token_globs globs) (by_tokens g) in
    let right = sum_by_push h globs g in
    omega (arith, left, right, one, all)

-- the tokens of a glob that was read were put where they belong
pub glob_added : (globs : List GlobValue) (g : GlobValue) (ts : Tokens) (len : ℕ) (old_keys new_keys : KeyParts) (old new : AutomataParts)
    → tokens_of_glob g ≡ ts → IsRead g → weight g.options ts ≤ states_per_byte g.options * length g.text
    → AddsGlob (token_glob g.options ts) len (set_matcher_parts old_keys old) (set_matcher_parts new_keys new) → new.extensions.index_count ≡ old.extensions.index_count
    → length globs < old.extensions.index_count → IsMatcherOf globs len old_keys old → IsMatcherOf (globs ++ g ∷ []) (len + 1) new_keys new
glob_added globs g ts len old_keys new_keys old new are is few adds count room h =
    let within : weight g.options (tokens_of_glob g) + 4 ≤ cost g = subst (λ (us : Tokens). weight g.options us + 4 ≤ cost g) (sym are) (omega (arith, few)) in
    let more = length-append globs (g ∷ []) in
    let counted = h.counted in record {
      read = All-push IsRead globs g h.read is;
      matcher = subst (λ (l : List TokenGlob). IsSetMatcherOf l (set_matcher_parts new_keys new))
          (ap (λ (us : Tokens). token_globs globs ++ token_glob g.options us ∷ []) (sym are) ∙ sym (map_push globs g))
          (adds (token_globs globs) (h.counted ∙ sym (globs_count globs)) h.matcher);
      size = λ path. sum_push (λ t. tokens.reads t path) (λ x. cond (needs_automaton x.options (tokens_of_glob x) path) (cost x) 0) globs g
          (cond_first (needs_automaton g.options (tokens_of_glob g) path) _ _ within) (h.size path);
      size_below = sum_push reads_below (λ x. cond (is_direct x.options (tokens_of_glob x)) 0 (cost x)) globs g
          (cond_second (is_direct g.options (tokens_of_glob g)) _ _ within) h.size_below;
      counted = omega (arith, counted, more);
      indexed = omega (arith, counted, count, room);
    }
