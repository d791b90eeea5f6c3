-- Walks along a path.
use Rattle.std.proofs.Common.{◌≡◌, ◌≢◌, ℕ, zero, suc, ◌+◌, ◌<◌, ◌≤◌, ◌==◌, Bool, true, false, cond, List, [], ◌∷◌, ◌++◌, Option, Some, None, length, drop, refl, sym, ap, ◌∙◌, append-nil, arith, length-append}
use Rattle.std.specs.Prelude.{slice_get, option_and_then}
use Rattle.glob_path.specs.declared.tree.Tree.{Tree}
use Rattle.glob_path.specs.inner.Nodes.{child_at, held_at, run_at, after_run, under, under_rest, follow, along, HasRun, HasNoRun}

pub some_same : {X : Type 0} (x y : X) → Some x ≡ Some y → x ≡ y
some_same x y e = ap (λ o. value_or x o) e
  where
    value_or : {X : Type 0} → X → Option X → X
    value_or d None = d
    value_or d (Some v) = v

pub drop_some : {X : Type 0} (q : List X) (i : ℕ) (b : X) → slice_get q i ≡ Some b → drop i q ≡ b ∷ drop (i + 1) q
drop_some [] i b e = cc
drop_some (x ∷ q) zero b e = ap (λ y. y ∷ q) (some_same x b e)
drop_some (x ∷ q) (suc i) b e =
    let n : suc i + 1 ≡ suc (i + 1) = omega arith in
    drop_some q i b e ∙ ap (λ k. b ∷ drop k (x ∷ q)) (sym n)

pub drop_none : {X : Type 0} (q : List X) (i : ℕ) → slice_get q i ≡ None → drop i q ≡ []
drop_none [] zero e = refl
drop_none [] (suc i) e = refl
drop_none (x ∷ q) zero e = cc
drop_none (x ∷ q) (suc i) e = drop_none q i e

pub within_some : {X : Type 0} (q : List X) (i : ℕ) (b : X) → slice_get q i ≡ Some b → i < length q
within_some [] i b e = cc
within_some (x ∷ q) zero b e = omega arith
within_some (x ∷ q) (suc i) b e = omega (arith, within_some q i b e)

nothing_along : (p : List ℕ) → along (λ x. []) p ≡ []
nothing_along [] = refl
nothing_along (b ∷ p) = nothing_along p

-- one byte of a run, by whether the path has it
byte_along : (q : Bool) (o : Option (List ℕ)) (f : List ℕ → List ℕ) (p v x : List ℕ) → (o ≡ Some v → along f p ≡ x) → cond q o None ≡ Some v → along (λ w. cond q (f w) []) p ≡ x
byte_along true o f p v x h e = h e
byte_along false o f p v x h e = cc

byte_short : (q : Bool) (o : Option (List ℕ)) (f : List ℕ → List ℕ) (p : List ℕ) → (o ≡ None → along f p ≡ []) → cond q o None ≡ None → along (λ w. cond q (f w) []) p ≡ []
byte_short true o f p h e = h e
byte_short false o f p h e = nothing_along p

rest_along : (t : Tree) (s : ℕ) (rs p v : List ℕ) → after_run rs p ≡ Some v → along (under_rest t s rs) p ≡ along (under_rest t s []) v
rest_along t s [] p v e = ap (along (under_rest t s [])) (some_same p v e)
rest_along t s (r ∷ rs) [] v e = cc
rest_along t s (r ∷ rs) (b ∷ p) v e = byte_along (r == b) (after_run rs p) (under_rest t s rs) p v (along (under_rest t s []) v) (rest_along t s rs p v) e

short_along : (t : Tree) (s : ℕ) (rs p : List ℕ) → after_run rs p ≡ None → along (under_rest t s rs) p ≡ []
short_along t s [] p e = cc
short_along t s (r ∷ rs) [] e = refl
short_along t s (r ∷ rs) (b ∷ p) e = byte_short (r == b) (after_run rs p) (under_rest t s rs) p (short_along t s rs p) e

along_child : (t : Tree) (s c b : ℕ) (q : List ℕ) → child_at t s b ≡ Some c → along (under_rest t s []) (b ∷ q) ≡ held_at t s ++ along (under t c) q
along_child t s c b q e = ap (λ o. held_at t s ++ along (λ x. follow o (λ d. under t d x)) q) e

along_none : (t : Tree) (s b : ℕ) (q : List ℕ) → child_at t s b ≡ None → along (under_rest t s []) (b ∷ q) ≡ held_at t s
along_none t s b q e =
    ap (λ o. held_at t s ++ along (λ x. follow o (λ d. under t d x)) q) e
    ∙ ap (λ l. held_at t s ++ l) (nothing_along q)
    ∙ append-nil (held_at t s)

child_from : (t : Tree) (s : ℕ) (q : List ℕ) (i c : ℕ) (o : Option ℕ) → slice_get q i ≡ o → Some c ≡ option_and_then (child_at t s) o →
    (along (under_rest t s []) (drop i q) ≡ held_at t s ++ along (under t c) (drop (i + 1) q)) × (i < length q)
child_from t s q i c None g e = cc
child_from t s q i c (Some b) g e =
    (ap (along (under_rest t s [])) (drop_some q i b g) ∙ along_child t s c b (drop (i + 1) q) (sym e), within_some q i b g)

-- where the byte after the run leads to a child
pub walk_child : (t : Tree) (s : ℕ) (q : List ℕ) (at i c : ℕ) → HasRun (run_at t s) q at i → Some c ≡ option_and_then (child_at t s) (slice_get q i) →
    (along (under t s) (drop at q) ≡ held_at t s ++ along (under t c) (drop (i + 1) q)) × (i < length q)
walk_child t s q at i c h e =
    let w = child_from t s q i c (slice_get q i) refl e in
    (rest_along t s (run_at t s) (drop at q) (drop i q) h.0 ∙ w.0, w.1)

stop_from : (t : Tree) (s : ℕ) (q : List ℕ) (i : ℕ) (o : Option ℕ) → slice_get q i ≡ o → None ≡ option_and_then (child_at t s) o →
    along (under_rest t s []) (drop i q) ≡ held_at t s
stop_from t s q i None g e = ap (along (under_rest t s [])) (drop_none q i g)
stop_from t s q i (Some b) g e = ap (along (under_rest t s [])) (drop_some q i b g) ∙ along_none t s b (drop (i + 1) q) (sym e)

-- where there is no byte after the run, or it leads nowhere
pub walk_stop : (t : Tree) (s : ℕ) (q : List ℕ) (at i : ℕ) → HasRun (run_at t s) q at i → None ≡ option_and_then (child_at t s) (slice_get q i) →
    along (under t s) (drop at q) ≡ held_at t s
walk_stop t s q at i h e = rest_along t s (run_at t s) (drop at q) (drop i q) h.0 ∙ stop_from t s q i (slice_get q i) refl e

-- where the path does not go on with the run
pub walk_short : (t : Tree) (s : ℕ) (q : List ℕ) (at : ℕ) → HasNoRun (run_at t s) q at → along (under t s) (drop at q) ≡ []
walk_short t s q at h = short_along t s (run_at t s) (drop at q) h

pub left_some : (xs ys : List ℕ) → xs ≢ [] → xs ++ ys ≢ []
left_some [] ys n = absurd (n refl)
left_some (x ∷ xs) ys n = λ e. cc

front_within : (f : List ℕ → List ℕ) (p : List ℕ) → length (f []) ≤ length (along f p)
front_within f [] = omega arith
front_within f (b ∷ p) = omega (arith, length-append (f []) (along (λ x. f (b ∷ x)) p))

-- the indexes of a node whose run the path goes on with
pub here_within : (t : Tree) (s : ℕ) (q : List ℕ) (at i : ℕ) → HasRun (run_at t s) q at i → length (held_at t s) ≤ length (along (under t s) (drop at q))
here_within t s q at i h = omega (arith, front_within (under_rest t s []) (drop i q), ap length (rest_along t s (run_at t s) (drop at q) (drop i q) h.0))

pub has_step : (here held rest all : List ℕ) → here ≡ all → here ≡ held ++ rest → held ≡ [] → rest ≡ all
has_step here held rest all h e z = ap (λ l. l ++ rest) (sym z) ∙ sym e ∙ h

has_front : (f : List ℕ → List ℕ) (p : List ℕ) (all : List ℕ) → along f p ≡ all → f [] ≢ [] → all ≢ []
has_front f [] all e n = λ z. n (e ∙ z)
has_front f (b ∷ p) all e n = λ z. left_some (f []) (along (λ x. f (b ∷ x)) p) n (e ∙ z)

pub has_here : (t : Tree) (s : ℕ) (q : List ℕ) (at i : ℕ) (all : List ℕ) → HasRun (run_at t s) q at i → along (under t s) (drop at q) ≡ all → held_at t s ≢ [] → all ≢ []
has_here t s q at i all h e n = has_front (under_rest t s []) (drop i q) all (sym (rest_along t s (run_at t s) (drop at q) (drop i q) h.0) ∙ e) n

pub none_from_length : (xs : List ℕ) → length xs ≡ 0 → xs ≡ []
none_from_length [] e = refl
none_from_length (x ∷ xs) e = absurd (omega arith)

pub some_from_length : (xs : List ℕ) → 0 < length xs → xs ≢ []
some_from_length [] l = absurd (omega arith)
some_from_length (x ∷ xs) l = λ e. cc
