-- The steps of writing a text, token by token.
use Rattle.std.proofs.Common.{◌≡◌, ℕ, suc, ◌+◌, ◌<◌, ◌≤◌, Bool, true, false, not, ◌&&◌, ◌||◌, List, [], ◌∷◌, ◌++◌, length, take, slice_index, arith, refl, ap, subst, ◌∙◌}
use Rattle.std.proofs.lemmas.List.{append_assoc, append-nil, get_or_append_left, get_or-take, take-append-le, take-take, length-take, length-append, get_or-append-add}
use Rattle.std.proofs.Math.Seq.{take-append_seam}
use Rattle.glob_syntax.specs.declared.options.Options.{Options}
use Rattle.glob_syntax.specs.Token.{Token, Group, Tokens, and_then, Branches, none, branch}
use Rattle.glob_syntax.specs.Reading.{Levels, in_level, open_level, next_branch, close_level}
use Rattle.glob_syntax.specs.FlatTokens.{Flat, simple, opening, comma, closing, all_levels, levels_of, IsSimple}
use Rattle.glob_syntax.proofs.lemmas.FlatTokens.{depth}
use Rattle.glob_syntax.proofs.lemmas.FlatTrees.{AreShaped, shaped}
use Rattle.glob_syntax.proofs.lemmas.TokenLists.{IsNotBlank}
use Rattle.glob_syntax.specs.Blank.{is_blank, is_blank_token, are_blank, is_kept, any_kept}
use Rattle.glob_text.specs.RegexText.{token_text, tokens_text, kept_texts, with_text}
use Rattle.glob_text.specs.inner.RegexWriting.{rest_text, opener, closer, Place, place, chosen, finish, place_of, places_of, AreCuts, simple_text, Writes}
use Rattle.glob_text.specs.declared.regex_text.OpenGroup.{OpenGroup}

-- ---- truth values

or_true : (e k : Bool) → (e || (k || true)) ≡ (e || true)
or_true true k = refl
or_true false true = refl
or_true false false = refl

or_false : (e k : Bool) → (e || (k || false)) ≡ (e || k)
or_false true k = refl
or_false false true = refl
or_false false false = refl

more_kept : (u n k a : Bool) → (u || (not (n && not k) || a)) ≡ (u || (not n || (k || a)))
more_kept true n k a = refl
more_kept false true true a = refl
more_kept false true false a = refl
more_kept false false k a = refl

at_last : (u n : Bool) → (u || (not n || false)) ≡ (u || not n)
at_last true n = refl
at_last false true = refl
at_last false false = refl

-- a group is blank where no branch is kept, but under the option
any_or_blank : (o : Options) (bs : Branches) → o.empty_alternates ≡ false → any_kept o bs ≡ not (are_blank bs)
any_or_blank o none off = refl
any_or_blank o (branch ps bs) off = rw (off, any_or_blank o bs off) (de_morgan (is_blank ps) (are_blank bs))
  where
    de_morgan : (p q : Bool) → (not p || not q) ≡ not (p && q)
    de_morgan true q = refl
    de_morgan false q = refl

group_keeps : (o : Options) (k : Bool) (bs : Branches) (ps : Tokens)
    → (o.empty_alternates || ((k || any_kept o bs) || not (is_blank ps))) ≡ (o.empty_alternates || (k || not (are_blank bs && is_blank ps)))
group_keeps o k bs ps = at o.empty_alternates refl
  where
    cases : (k b q : Bool) → ((k || not b) || not q) ≡ (k || not (b && q))
    cases true b q = refl
    cases false true q = refl
    cases false false q = refl

    at : (e : Bool) → o.empty_alternates ≡ e → (e || ((k || any_kept o bs) || not (is_blank ps))) ≡ (e || (k || not (are_blank bs && is_blank ps)))
    at true is = refl
    at false is = rw (any_or_blank o bs is) (cases k (are_blank bs) (is_blank ps))

-- a branch after its opener, and the rest of its group
begun_text : (none : Bool) (k : Bool) (text t : List ℕ) (ts : List (List ℕ))
    → chosen k ((text ++ opener none) ++ t) text ++ rest_text (none && not k) ts ≡ text ++ rest_text none (with_text k t ts)
begun_text true true text t ts = simp append_assoc
begun_text true false text t ts = refl
begun_text false true text t ts = simp append_assoc
begun_text false false text t ts = refl

-- ---- steps by places: the whole text stays

pub finish_simple : (o : Options) (text : List ℕ) (kept : Bool) (ps : List Place) (l : Levels) (p : Token)
    → AreShaped (all_levels l) → is_blank_token p ≡ false
    → finish o (text ++ token_text o p) true ps (all_levels l) ≡ finish o text kept ps (all_levels (in_level (p ∷ []) l))
finish_simple o text kept ps (none, more) p h is = absurd h
finish_simple o text kept [] (branch ts bs, more) p h is = simp append_assoc
finish_simple o text kept (q ∷ ps) (branch ts bs, more) p h is = rw (is, or_true o.empty_alternates kept, append_assoc) refl

-- a whole group, and then the rest of the branch
finish_group : (o : Options) (text : List ℕ) (kept : Bool) (ps : List Place) (bs : Branches) (us : Tokens) (outer : Branches) (more : List Branches)
    → finish o (text ++ token_text o (Group bs)) (kept || any_kept o bs) ps (branch us outer ∷ more) ≡ finish o text kept ps (branch (and_then (Group bs) us) outer ∷ more)
finish_group o text kept [] bs us outer more = append_assoc text (token_text o (Group bs)) (tokens_text o us)
finish_group o text kept (q ∷ ps) bs us outer more = rw (group_keeps o kept bs us, append_assoc text (token_text o (Group bs)) (tokens_text o us)) refl

pub finish_open : (o : Options) (text : List ℕ) (kept : Bool) (ps : List Place) (l : Levels)
    → AreShaped (all_levels l) → 0 < length l.1
    → finish o (text ++ opener true) false (place text true kept ∷ ps) (all_levels l) ≡ finish o text kept ps (all_levels (open_level l))
finish_open o text kept ps (none, more) h d = absurd h
finish_open o text kept ps (branch ts bs, []) h d = absurd (omega arith)
finish_open o text kept ps (branch ts bs, none ∷ more) h d = absurd h
finish_open o text kept ps (branch ts bs, branch us outer ∷ more) h d =
    let k : Bool = is_kept o ts in
    let old : Bool = kept || (not (true && not k) || any_kept o bs) in
    ap (λ t. finish o t old ps (branch us outer ∷ more)) (begun_text true k text (tokens_text o ts) (kept_texts o bs))
    ∙ ap (λ b. finish o (text ++ token_text o (Group (branch ts bs))) b ps (branch us outer ∷ more)) (more_kept kept true k (any_kept o bs))
    ∙ finish_group o text kept ps (branch ts bs) us outer more

pub finish_next : (o : Options) (text : List ℕ) (kept : Bool) (q : Place) (ps : List Place) (l : Levels) (k : Bool) (begun : List ℕ) (none : Bool)
    → AreShaped (all_levels l) → k ≡ (o.empty_alternates || kept) → begun ≡ chosen k text q.before → none ≡ (q.first && not k)
    → finish o (begun ++ opener none) false (place begun none q.outer_kept ∷ ps) (all_levels l) ≡ finish o text kept (q ∷ ps) (all_levels (next_branch l))
finish_next o text kept q ps (none, more) k begun n h is at n_is = absurd h
finish_next o text kept q ps (branch us bs, more) k begun n h is at n_is =
    let k' : Bool = is_kept o us in
    let old : Bool = q.outer_kept || (not (n && not k') || any_kept o bs) in
    ap (λ t. finish o t old ps more) (begun_text n k' begun (tokens_text o us) (kept_texts o bs))
    ∙ ap (λ b. finish o (begun ++ rest_text n (kept_texts o (branch us bs))) b ps more) (more_kept q.outer_kept n k' (any_kept o bs))
    ∙ rw (or_false o.empty_alternates kept, append-nil text, ← is, ← at, ← n_is) refl

last_text : (n : Bool) → rest_text n [] ≡ closer n
last_text true = refl
last_text false = refl

pub finish_close : (o : Options) (text : List ℕ) (kept : Bool) (q : Place) (ps : List Place) (l : Levels) (k : Bool) (begun : List ℕ) (none : Bool)
    → k ≡ (o.empty_alternates || kept) → begun ≡ chosen k text q.before → none ≡ (q.first && not k)
    → finish o (begun ++ closer none) (q.outer_kept || not none) ps (all_levels l) ≡ finish o text kept (q ∷ ps) (all_levels (close_level l))
finish_close o text kept q ps l k begun n is at n_is =
    rw (or_false o.empty_alternates kept, append-nil text, ← is, ← at, ← n_is, last_text n, at_last q.outer_kept n) refl

-- ---- steps by positions

pub places_append : (text x : List ℕ) (n : ℕ) (gs : List OpenGroup) → n ≤ length text → AreCuts text n gs → places_of (text ++ x) gs ≡ places_of text gs
places_append text x n [] le h = refl
places_append text x n (g ∷ gs) le (lt, ascii, h) =
    let e : take g.len (text ++ x) ≡ take g.len text = take-append-le g.len text x (omega arith) in
    rw (e, places_append text x g.len gs (omega arith) h) refl

pub places_take : (text : List ℕ) (n m : ℕ) (gs : List OpenGroup) → m ≤ n → AreCuts text m gs → places_of (take n text) gs ≡ places_of text gs
places_take text n m [] le h = refl
places_take text n m (g ∷ gs) le (lt, ascii, h) =
    let e : take g.len (take n text) ≡ take g.len text = take-take g.len n text (omega arith) in
    rw (e, places_take text n g.len gs (omega arith) h) refl

pub cuts_append : (text x : List ℕ) (n m : ℕ) (gs : List OpenGroup) → n ≤ length text → n ≤ m → AreCuts text n gs → AreCuts (text ++ x) m gs
cuts_append text x n m [] le more h = tt
cuts_append text x n m (g ∷ gs) le more (lt, ascii, h) =
    (omega arith, rw (get_or_append_left text x 0 g.len (omega arith)) ascii, cuts_append text x g.len g.len gs (omega arith) (omega arith) h)

pub cuts_take : (text : List ℕ) (n m : ℕ) (gs : List OpenGroup) → m ≤ n → AreCuts text m gs → AreCuts (take n text) m gs
cuts_take text n m [] le h = tt
cuts_take text n m (g ∷ gs) le (lt, ascii, h) =
    (lt, rw (get_or-take n text g.len 0 (omega arith)) ascii, cuts_take text n g.len gs (omega arith) h)

-- a branch that is done: the groups around it stay
begun_places : (text : List ℕ) (g : OpenGroup) (gs : List OpenGroup) (k : Bool) → AreCuts text (length text) (g ∷ gs) → places_of (chosen k text (take g.len text)) gs ≡ places_of text gs
begun_places text g gs true h = refl
begun_places text g gs false (lt, ascii, h) = places_take text g.len g.len gs (omega arith) h

begun_cuts : (text : List ℕ) (g : OpenGroup) (gs : List OpenGroup) (k : Bool) → AreCuts text (length text) (g ∷ gs)
    → AreCuts (chosen k text (take g.len text)) (length (chosen k text (take g.len text))) gs
begun_cuts text g gs true (lt, ascii, h) = subst (λ t. AreCuts t (length text) gs) (append-nil text) (cuts_append text [] g.len (length text) gs (omega arith) (omega arith) h)
begun_cuts text g gs false (lt, ascii, h) = let len : length (take g.len text) ≡ g.len = omega (arith, length-take g.len text) in rw len (cuts_take text g.len g.len gs (omega arith) h)

opener_first : (n : Bool) → (0 < length (opener n)) × (slice_index (opener n) 0 < 128)
opener_first true = (omega arith, omega arith)
opener_first false = (omega arith, omega arith)

-- a group whose branch begins at the text's end
cuts_opened : (text : List ℕ) (n : Bool) (g : OpenGroup) (gs : List OpenGroup) → g.len ≡ length text → AreCuts text (length text) gs
    → AreCuts (text ++ opener n) (length (text ++ opener n)) (g ∷ gs)
cuts_opened text n g gs at h =
    let first = opener_first n in
    let len = length-append text (opener n) in
    let here : slice_index (text ++ opener n) (length text + 0) ≡ slice_index (opener n) 0 = get_or-append-add text (opener n) 0 0 in
    let same : length text + 0 ≡ g.len = omega arith in
    let here' : slice_index (text ++ opener n) g.len ≡ slice_index (opener n) 0 = rw same at here in
    (omega arith, rw here' first.1, rw at (cuts_append text (opener n) (length text) (length text) gs (omega arith) (omega arith) h))

-- the text before it
place_opened : (text : List ℕ) (n b u : Bool) (g : OpenGroup) (gs : List OpenGroup) → g.len ≡ length text → g.first ≡ b → g.outer_kept ≡ u
    → AreCuts text (length text) gs → places_of (text ++ opener n) (g ∷ gs) ≡ place text b u ∷ places_of text gs
place_opened text n b u g gs at first outer h =
    let e : take g.len (text ++ opener n) ≡ text = rw at (take-append_seam text (opener n)) in
    rw (e, first, outer, places_append text (opener n) (length text) gs (omega arith) h) refl

-- ---- the steps of the loop

pub writes_simple : (o : Options) (whole text : List ℕ) (kept : Bool) (gs : List OpenGroup) (t : Flat) (ts : List Flat)
    → Writes o whole text kept gs (t ∷ ts) → IsSimple t → IsNotBlank t → Writes o whole (text ++ simple_text o t) true gs ts
writes_simple o whole text kept gs (simple p) ts w plain not_blank = record {
  same = rw (places_append text (token_text o p) (length text) gs (omega arith) w.cuts) (finish_simple o text kept (places_of text gs) (levels_of ts) p (shaped ts) not_blank ∙ w.same);
  cuts = cuts_append text (token_text o p) (length text) (length (text ++ token_text o p)) gs (omega arith) (omega (arith, length-append text (token_text o p))) w.cuts;
  nested = w.nested;
}
writes_simple o whole text kept gs opening ts w plain not_blank = absurd plain
writes_simple o whole text kept gs comma ts w plain not_blank = absurd plain
writes_simple o whole text kept gs closing ts w plain not_blank = absurd plain

pub writes_open : (o : Options) (whole text : List ℕ) (kept : Bool) (gs : List OpenGroup) (ts : List Flat) (g : OpenGroup)
    → Writes o whole text kept gs (opening ∷ ts) → g.len ≡ length text → g.first ≡ true → g.outer_kept ≡ kept
    → Writes o whole (text ++ opener true) false (g ∷ gs) ts
writes_open o whole text kept gs ts g w at first outer = record {
  same = let d = depth (suc (length gs)) ts w.nested in
      ap (λ ps. finish o (text ++ opener true) false ps (all_levels (levels_of ts))) (place_opened text true true kept g gs at first outer w.cuts)
      ∙ (finish_open o text kept (places_of text gs) (levels_of ts) (shaped ts) (omega arith) ∙ w.same);
  cuts = cuts_opened text true g gs at w.cuts;
  nested = w.nested;
}

pub writes_comma : (o : Options) (whole text : List ℕ) (kept : Bool) (g next : OpenGroup) (gs : List OpenGroup) (ts : List Flat) (k : Bool) (begun : List ℕ) (n : Bool)
    → Writes o whole text kept (g ∷ gs) (comma ∷ ts) → k ≡ (o.empty_alternates || kept) → begun ≡ chosen k text (take g.len text) → n ≡ (g.first && not k)
    → next.len ≡ length begun → next.first ≡ n → next.outer_kept ≡ g.outer_kept
    → Writes o whole (begun ++ opener n) false (next ∷ gs) ts
writes_comma o whole text kept g next gs ts k begun n w is begun_is n_is at first outer =
    let cuts : AreCuts begun (length begun) gs = rw begun_is (begun_cuts text g gs k w.cuts) in
    let places : places_of begun gs ≡ places_of text gs = rw begun_is (begun_places text g gs k w.cuts) in
    record {
      same = ap (λ ps. finish o (begun ++ opener n) false ps (all_levels (levels_of ts))) (place_opened begun n n g.outer_kept next gs at first outer cuts)
          ∙ ap (λ ps. finish o (begun ++ opener n) false (place begun n g.outer_kept ∷ ps) (all_levels (levels_of ts))) places
          ∙ finish_next o text kept (place_of text g) (places_of text gs) (levels_of ts) k begun n (shaped ts) is begun_is n_is ∙ w.same;
      cuts = cuts_opened begun n next gs at cuts;
      nested = w.nested;
    }

pub writes_close : (o : Options) (whole text : List ℕ) (kept : Bool) (g : OpenGroup) (gs : List OpenGroup) (ts : List Flat) (k : Bool) (begun : List ℕ) (n : Bool)
    → Writes o whole text kept (g ∷ gs) (closing ∷ ts) → k ≡ (o.empty_alternates || kept) → begun ≡ chosen k text (take g.len text) → n ≡ (g.first && not k)
    → Writes o whole (begun ++ closer n) (g.outer_kept || not n) gs ts
writes_close o whole text kept g gs ts k begun n w is begun_is n_is =
    let cuts : AreCuts begun (length begun) gs = rw begun_is (begun_cuts text g gs k w.cuts) in
    let places : places_of begun gs ≡ places_of text gs = rw begun_is (begun_places text g gs k w.cuts) in
    record {
      same = rw (places_append begun (closer n) (length begun) gs (omega arith) cuts, places)
          (finish_close o text kept (place_of text g) (places_of text gs) (levels_of ts) k begun n is begun_is n_is ∙ w.same);
      cuts = cuts_append begun (closer n) (length begun) (length (begun ++ closer n)) gs (omega arith) (omega (arith, length-append begun (closer n))) cuts;
      nested = w.nested;
    }
