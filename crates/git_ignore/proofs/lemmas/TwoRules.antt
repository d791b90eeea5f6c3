-- The folders above paths, and the rules that decide about them.
use Rattle.std.proofs.Common.{◌≡◌, ℕ, ◌+◌, ◌<◌, List, [], ◌∷◌, ◌++◌, length, take, drop, get_or, Bool, true, false, refl, ap, sym, ◌∙◌, append-nil}
use Rattle.std.specs.Prelude.{◌==◌, if◌then◌else◌, map, Option, Some, None, is_some}
use Rattle.std.specs.Option.{option_or}
use Rattle.std.proofs.lemmas.Bool.{false≢true}
use Rattle.std.proofs.lemmas.List.{map-append, take_more, take-append-drop}
use Rattle.git_ignore.specs.TwoRules.{first_answer, last_answer, folders_above, ignoring, ignored_above, deciding}
use Rattle.git_ignore.specs.declared.decision.DecideBy.TheVariants.{Git, Nearest, PathAlone}
use Rattle.git_ignore.specs.declared.decision.DecidingRule.{DecidingRule}

-- ---- folders above a path

same_below_top : (fs : List (List ℕ)) → map (λ f. [] ++ f) fs ≡ fs
same_below_top [] = refl
same_below_top (f ∷ fs) = ap (λ (r : List (List ℕ)). f ∷ r) (same_below_top fs)

put_before : (c : ℕ) (xs : List ℕ) (fs : List (List ℕ)) → map (λ f. c ∷ f) (map (λ f. xs ++ f) fs) ≡ map (λ f. c ∷ xs ++ f) fs
put_before c xs [] = refl
put_before c xs (f ∷ fs) = ap (λ (r : List (List ℕ)). (c ∷ (xs ++ f)) ∷ r) (put_before c xs fs)

above_more : (b : Bool) (fs gs all : List (List ℕ)) → all ≡ fs ++ gs → (if b then [] ∷ all else all) ≡ (if b then [] ∷ fs else fs) ++ gs
above_more true fs gs all e = ap (λ (r : List (List ℕ)). [] ∷ r) e
above_more false fs gs all e = e

folders_above-append : (xs ys : List ℕ) → folders_above (xs ++ ys) ≡ folders_above xs ++ map (λ f. xs ++ f) (folders_above ys)
folders_above-append [] ys = sym (same_below_top (folders_above ys))
folders_above-append (c ∷ cs) ys =
    above_more (c == 47) (map (λ f. c ∷ f) (folders_above cs)) (map (λ f. c ∷ cs ++ f) (folders_above ys)) (map (λ f. c ∷ f) (folders_above (cs ++ ys)))
    (ap (λ (fs : List (List ℕ)). map (λ f. c ∷ f) fs) (folders_above-append cs ys)
    ∙ map-append (λ (f : List ℕ). c ∷ f) (folders_above cs) (map (λ f. cs ++ f) (folders_above ys))
    ∙ ap (λ (fs : List (List ℕ)). map (λ f. c ∷ f) (folders_above cs) ++ fs) (put_before c cs (folders_above ys)))

-- one more byte: a folder more, if it is `/`
folders_more : (p : List ℕ) (c : ℕ) → folders_above (p ++ c ∷ []) ≡ folders_above p ++ (if c == 47 then p ∷ [] else [])
folders_more p c = folders_above-append p (c ∷ []) ∙ ap (λ (fs : List (List ℕ)). folders_above p ++ fs) (of (c == 47))
  where
    of : (b : Bool) → map (λ f. p ++ f) (if b then [] ∷ [] else []) ≡ (if b then p ∷ [] else [])
    of true = ap (λ (q : List ℕ). q ∷ []) (append-nil p)
    of false = refl

-- the rules that decide about paths alone
abbrev Alone : Type 0
Alone = List ℕ → Bool → Option DecidingRule

-- the rule about the folder that ends before a byte, if it is `/`
abbrev pub ending : (List ℕ → Bool → Option DecidingRule) → List ℕ → ℕ → Option DecidingRule
ending alone p c = if c == 47 then alone p true else None

-- ---- the first answer and the last

pub option_or_nothing : {Y : Type 0} (a : Option Y) → option_or a None ≡ a
option_or_nothing None = refl
option_or_nothing (Some y) = refl

pub option_or_grouped : {Y : Type 0} (a b c : Option Y) → option_or (option_or a b) c ≡ option_or a (option_or b c)
option_or_grouped None b c = refl
option_or_grouped (Some y) b c = refl

pub option_or_some : {Y : Type 0} (a b : Option Y) → is_some a ≡ true → option_or a b ≡ a
option_or_some None b is = absurd (false≢true is)
option_or_some (Some y) b is = refl

pub none_if_not_some : {Y : Type 0} (o : Option Y) → is_some o ≡ false → o ≡ None
none_if_not_some None h = refl
none_if_not_some (Some y) h = absurd (false≢true (sym h))

first_answer-append : {X Y : Type 0} (about : X → Option Y) (xs ys : List X) → first_answer about (xs ++ ys) ≡ option_or (first_answer about xs) (first_answer about ys)
first_answer-append about [] ys = refl
first_answer-append about (x ∷ xs) ys =
    ap (λ (o : Option _). option_or (about x) o) (first_answer-append about xs ys) ∙ sym (option_or_grouped (about x) (first_answer about xs) (first_answer about ys))

pub last_answer_more : {X Y : Type 0} (about : X → Option Y) (xs : List X) (x : X) → last_answer about (xs ++ x ∷ []) ≡ option_or (about x) (last_answer about xs)
last_answer_more about [] x = sym (option_or_nothing (about x))
last_answer_more about (y ∷ ys) x =
    ap (λ (o : Option _). option_or o (about y)) (last_answer_more about ys x) ∙ option_or_grouped (about x) (last_answer about ys) (about y)

-- ---- ignored folders above a path

pub below_more : (alone : Alone) (p : List ℕ) (c : ℕ) → ignored_above alone (p ++ c ∷ []) ≡ option_or (ignored_above alone p) (ignoring (ending alone p c))
below_more alone p c =
    let about : List ℕ → Option DecidingRule = λ folder. ignoring (alone folder true) in
    ap (first_answer about) (folders_more p c)
    ∙ first_answer-append about (folders_above p) (if c == 47 then p ∷ [] else [])
    ∙ ap (λ (o : Option DecidingRule). option_or (ignored_above alone p) o) (of (c == 47))
  where
    of : (b : Bool) → first_answer (λ folder. ignoring (alone folder true)) (if b then p ∷ [] else []) ≡ ignoring (if b then alone p true else None)
    of true = option_or_nothing (ignoring (alone p true))
    of false = refl

-- what is below a path has the folders above it, too
still_below : (alone : Alone) (p q : List ℕ) (o : Option DecidingRule) → is_some o ≡ true → ignored_above alone p ≡ o → ignored_above alone (p ++ q) ≡ o
still_below alone p q o is h =
    let about : List ℕ → Option DecidingRule = λ folder. ignoring (alone folder true) in
    let more : Option DecidingRule = first_answer about (map (λ f. p ++ f) (folders_above q)) in
    ap (first_answer about) (folders_above-append p q) ∙ first_answer-append about (folders_above p) (map (λ f. p ++ f) (folders_above q))
    ∙ ap (λ (e : Option DecidingRule). option_or e more) h ∙ option_or_some o more is

ignored_by : (alone : Alone) (path : List ℕ) (is_folder : Bool) (o : Option DecidingRule) → is_some o ≡ true → ignored_above alone path ≡ o → o ≡ deciding Git alone path is_folder
unfolding deciding
ignored_by alone path d o is h = sym (ap (λ (e : Option DecidingRule). option_or e (alone path d)) h ∙ option_or_some o (alone path d) is)

-- below an ignored folder its rule decides
pub ignored_below : (alone : Alone) (p q : List ℕ) (is_folder : Bool) (o : Option DecidingRule) → is_some o ≡ true → ignored_above alone p ≡ o → o ≡ deciding Git alone (p ++ q) is_folder
ignored_below alone p q d o is h = ignored_by alone (p ++ q) d o is (still_below alone p q o is h)

pub not_ignored : (alone : Alone) (path : List ℕ) (is_folder : Bool) → ignored_above alone path ≡ None → alone path is_folder ≡ deciding Git alone path is_folder
unfolding deciding
not_ignored alone path d h = ap (λ (e : Option DecidingRule). option_or e (alone path d)) (sym h)

-- a rule that ignores still does
ignoring_twice : (file line : ℕ) (b : Bool) → let r : DecidingRule = record { file = file; line = line; is_negated = b } in ignoring (ignoring (Some r)) ≡ ignoring (Some r)
ignoring_twice file line true = refl
ignoring_twice file line false = refl

ignoring_again : (o : Option DecidingRule) → ignoring (ignoring o) ≡ ignoring o
ignoring_again None = refl
ignoring_again (Some r) = ignoring_twice r.file r.line r.is_negated

ignoring_first : (alone : Alone) (fs : List (List ℕ)) → let about : List ℕ → Option DecidingRule = λ folder. ignoring (alone folder true) in ignoring (first_answer about fs) ≡ first_answer about fs
ignoring_first alone [] = refl
ignoring_first alone (f ∷ fs) = of (ignoring (alone f true)) (ignoring_again (alone f true)) (ignoring_first alone fs)
  where
    rest : Option DecidingRule
    rest = first_answer (λ folder. ignoring (alone folder true)) fs

    of : (o : Option DecidingRule) → ignoring o ≡ o → ignoring rest ≡ rest → ignoring (option_or o rest) ≡ option_or o rest
    of None h below = below
    of (Some r) h below = h

-- the folder of a path is entered
pub entered_ignored : (alone : Alone) (p : List ℕ) → ignoring (deciding Git alone p true) ≡ ignored_above alone (p ++ 47 ∷ [])
unfolding deciding
entered_ignored alone p = of (ignored_above alone p) (ignoring_first alone (folders_above p)) ∙ sym (below_more alone p 47)
  where
    of : (o : Option DecidingRule) → ignoring o ≡ o → ignoring (option_or o (alone p true)) ≡ option_or o (ignoring (alone p true))
    of None h = refl
    of (Some r) h = h

-- one byte of a path more, and no folder that ends there is ignored
pub passed_byte : (alone : Alone) (path : List ℕ) (i : ℕ) → i < length path → ignored_above alone (take i path) ≡ None
    → ignoring (ending alone (take i path) (get_or path i 0)) ≡ None → ignored_above alone (take (i + 1) path) ≡ None
passed_byte alone path i h before here =
    ap (ignored_above alone) (take_more path i 0 h) ∙ below_more alone (take i path) (get_or path i 0) ∙ (λ k. option_or (before k) (here k))

-- a folder that ends at a byte of a path is ignored
pub met_ignored : (alone : Alone) (path : List ℕ) (is_folder : Bool) (i : ℕ) (o : Option DecidingRule) → i < length path → ignored_above alone (take i path) ≡ None
    → o ≡ ignoring (ending alone (take i path) (get_or path i 0)) → is_some o ≡ true → o ≡ deciding Git alone path is_folder
met_ignored alone path d i o h before here is =
    ignored_below alone (take (i + 1) path) (drop (i + 1) path) d o is
    (ap (ignored_above alone) (take_more path i 0 h) ∙ below_more alone (take i path) (get_or path i 0) ∙ (λ k. option_or (before k) (sym here k)))
    ∙ ap (λ (p : List ℕ). deciding Git alone p d) (take-append-drop (i + 1) path)

-- ---- the nearest decision

-- the rule about the nearest folder above a path that has one
abbrev pub rule_above : (List ℕ → Bool → Option DecidingRule) → List ℕ → Option DecidingRule
rule_above alone path = last_answer (λ folder. alone folder true) (folders_above path)

above_more_byte : (alone : Alone) (p : List ℕ) (c : ℕ) → rule_above alone (p ++ c ∷ []) ≡ option_or (ending alone p c) (rule_above alone p)
above_more_byte alone p c = ap (last_answer about) (folders_more p c) ∙ of (c == 47)
  where
    about : List ℕ → Option DecidingRule
    about = λ folder. alone folder true

    of : (b : Bool) → last_answer about (folders_above p ++ (if b then p ∷ [] else [])) ≡ option_or (if b then alone p true else None) (rule_above alone p)
    of true = last_answer_more about (folders_above p) p
    of false = ap (last_answer about) (append-nil (folders_above p))

-- the path has a rule
pub nearest_itself : (alone : Alone) (path : List ℕ) (is_folder : Bool) (o : Option DecidingRule) → o ≡ alone path is_folder → is_some o ≡ true → o ≡ deciding Nearest alone path is_folder
unfolding deciding
nearest_itself alone path f o is some = sym (ap (λ (e : Option DecidingRule). option_or e (rule_above alone path)) (sym is) ∙ option_or_some o (rule_above alone path) some)

-- it has none
pub nearest_above : (alone : Alone) (path : List ℕ) (is_folder : Bool) (o : Option DecidingRule) → o ≡ alone path is_folder → o ≡ None
    → rule_above alone path ≡ deciding Nearest alone path is_folder
unfolding deciding
nearest_above alone path f o is none = ap (λ (e : Option DecidingRule). option_or e (rule_above alone path)) (sym none ∙ is)

-- of the folders above a path, the nearest that was not asked yet has a rule
pub folder_decides : (alone : Alone) (path : List ℕ) (i : ℕ) (o all : Option DecidingRule) → i < length path → o ≡ ending alone (take i path) (get_or path i 0)
    → is_some o ≡ true → rule_above alone (take (i + 1) path) ≡ all → o ≡ all
folder_decides alone path i o all h is some rest =
    sym (sym rest ∙ ap (rule_above alone) (take_more path i 0 h) ∙ above_more_byte alone (take i path) (get_or path i 0)
    ∙ ap (λ (e : Option DecidingRule). option_or e (rule_above alone (take i path))) (sym is) ∙ option_or_some o (rule_above alone (take i path)) some)

-- it has none
pub folder_undecided : (alone : Alone) (path : List ℕ) (i : ℕ) (o all : Option DecidingRule) → i < length path → o ≡ ending alone (take i path) (get_or path i 0)
    → o ≡ None → rule_above alone (take (i + 1) path) ≡ all → rule_above alone (take i path) ≡ all
folder_undecided alone path i o all h is none rest =
    ap (λ (e : Option DecidingRule). option_or e (rule_above alone (take i path))) (sym none ∙ is)
    ∙ sym (above_more_byte alone (take i path) (get_or path i 0)) ∙ ap (rule_above alone) (sym (take_more path i 0 h)) ∙ rest

-- ---- the path alone

pub itself_alone : (alone : Alone) (path : List ℕ) (is_folder : Bool) → alone path is_folder ≡ deciding PathAlone alone path is_folder
unfolding deciding
itself_alone alone path d = refl
