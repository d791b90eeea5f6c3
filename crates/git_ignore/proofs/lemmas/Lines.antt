-- The lines of bytes, as a search for line feeds finds them.
use Rattle.std.proofs.Common.{◌≡◌, ℕ, zero, suc, ◌+◌, ◌-◌, ◌<◌, List, [], ◌∷◌, ◌++◌, take, drop, Bool, true, false, refl, ap, sym, ◌∙◌, arith, append-nil, append_assoc, subst}
use Rattle.std.specs.Prelude.{◌==◌, Option, Some, None, if◌then◌else◌, slice_get}
use Rattle.std.specs.List.{onto_first}
use Rattle.std.specs.Option.{option_map}
use Rattle.memchr.specs.Find.{IsFirstByte, is_byte}
use Rattle.ignore_pattern.specs.Lines.{line_text, lines_of, without_byte_order_mark}
use Rattle.ignore_pattern.specs.Patterns.{Pattern, pattern_of_line}
use Rattle.git_ignore.specs.Rules.{Rule, is_unread, line_at, line_text_at, rules_from, unread_from}
use Rattle.git_ignore.specs.declared.entry.RuleEntry.{RuleEntry}
use Rattle.git_ignore.specs.inner.Entries.{AddsRules, ArePartsOf, AreReadUpTo, rule_at, unread_at}

if_not : {X : Type 0} (b : Bool) (x y : X) → ¬ (b ≡ true) → (if b then x else y) ≡ y
if_not true x y n = absurd (n refl)
if_not false x y n = refl

if_so : {X : Type 0} (b : Bool) (x y : X) → b ≡ true → (if b then x else y) ≡ x
if_so true x y h = refl
if_so false x y h = absurd (cc)

-- without a line feed the bytes are one line
pub one_line : (rest : List ℕ) → IsFirstByte (is_byte 10) rest None → lines_of rest ≡ rest ∷ []
unfolding lines_of
one_line [] h = refl
one_line (c ∷ cs) h =
    if_not (c == 10) ([] ∷ lines_of cs) (onto_first c (lines_of cs)) (h 0 (omega arith) (omega arith))
    ∙ ap (onto_first c) (one_line cs (λ k low high. h (suc k) (omega arith) (omega (arith, high))))

-- the first line ends before the first line feed
pub first_line : (rest : List ℕ) (i : ℕ) → IsFirstByte (is_byte 10) rest (Some i) → lines_of rest ≡ take i rest ∷ lines_of (drop (i + 1) rest)
unfolding lines_of
first_line [] i h = absurd (omega (arith, h.0.high))
first_line (c ∷ cs) zero h = if_so (c == 10) ([] ∷ lines_of cs) (onto_first c (lines_of cs)) h.1
first_line (c ∷ cs) (suc i) h =
    if_not (c == 10) ([] ∷ lines_of cs) (onto_first c (lines_of cs)) (h.0.before 0 (omega arith) (omega arith))
    ∙ ap (onto_first c) (first_line cs i (record { low = omega arith; high = omega (arith, h.0.high); before = λ k low high. h.0.before (suc k) (omega arith) (omega (arith, high)) }, h.1))
    ∙ (let e : suc i + 1 ≡ suc (i + 1) = omega arith in rw e refl)

-- the rules of the first line, and those of the others
rules_split : (o : Option Pattern) (n : ℕ) (rules : List Rule)
    → (elim o [ None ↦ rules | Some p ↦ record { line = n; pattern = p } ∷ rules ]) ≡ rule_at n o ++ rules
rules_split None n rules = refl
rules_split (Some p) n rules = refl

pub rules_of_first : (n : ℕ) (line : List ℕ) (lines : List (List ℕ)) → rules_from n (line ∷ lines) ≡ rule_at n (pattern_of_line line) ++ rules_from (suc n) lines
rules_of_first n line lines = rules_split (pattern_of_line line) n (rules_from (suc n) lines)

-- the next line was read
pub next_read : (all : List Rule) (ps qs : List Pattern) (es ds : List RuleEntry) (n i : ℕ) (rest line after : List ℕ)
    → AreReadUpTo all (rules_from n (lines_of rest)) ps es → IsFirstByte (is_byte 10) rest (Some i) → line ≡ take i rest → after ≡ drop (i + 1) rest
    → AddsRules (rule_at n (pattern_of_line line)) ps es qs ds → AreReadUpTo all (rules_from (n + 1) (lines_of after)) qs ds
next_read all ps qs es ds n i rest line after h first is_line is_after adds =
    let next : suc n ≡ n + 1 = omega arith in
    record {
      done = h.done ++ rule_at n (pattern_of_line line);
      split = h.split
          ∙ ap (λ (ls : List (List ℕ)). h.done ++ rules_from n ls) (first_line rest i first)
          ∙ ap (λ (rs : List Rule). h.done ++ rs) (rules_of_first n (take i rest) (lines_of (drop (i + 1) rest)))
          ∙ (λ k. h.done ++ (rule_at n (pattern_of_line (sym is_line k)) ++ rules_from (next k) (lines_of (sym is_after k))))
          ∙ sym (append_assoc h.done (rule_at n (pattern_of_line line)) (rules_from (n + 1) (lines_of after)));
      stored = adds h.done h.stored;
    }

-- the last line was read
pub last_read : (all : List Rule) (ps qs : List Pattern) (es ds : List RuleEntry) (n : ℕ) (rest : List ℕ)
    → AreReadUpTo all (rules_from n (lines_of rest)) ps es → IsFirstByte (is_byte 10) rest None → AddsRules (rule_at n (pattern_of_line rest)) ps es qs ds → ArePartsOf all qs ds
last_read all ps qs es ds n rest h none adds =
    let same : all ≡ h.done ++ rule_at n (pattern_of_line rest) =
    h.split ∙ ap (λ (ls : List (List ℕ)). h.done ++ rules_from n ls) (one_line rest none)
    ∙ ap (λ (rs : List Rule). h.done ++ rs) (rules_of_first n rest [] ∙ append-nil (rule_at n (pattern_of_line rest))) in
    subst (λ (rs : List Rule). ArePartsOf rs qs ds) (sym same) (adds h.done h.stored)

-- ---- lines that git cannot read

-- the number of the first line, if git cannot read it, and those of the others
unread_split : (b : Bool) (n : ℕ) (ns : List ℕ) → (if b then n ∷ ns else ns) ≡ unread_at n b ++ ns
unread_split true n ns = refl
unread_split false n ns = refl

unread_of_first : (n : ℕ) (line : List ℕ) (lines : List (List ℕ)) → unread_from n (line ∷ lines) ≡ unread_at n (is_unread line) ++ unread_from (suc n) lines
unread_of_first n line lines = unread_split (is_unread line) n (unread_from (suc n) lines)

-- the next line was read
pub next_unread : (all now new : List ℕ) (n i : ℕ) (rest line after : List ℕ)
    → now ++ unread_from n (lines_of rest) ≡ all → IsFirstByte (is_byte 10) rest (Some i) → line ≡ take i rest → after ≡ drop (i + 1) rest
    → new ≡ now ++ unread_at n (is_unread line) → new ++ unread_from (n + 1) (lines_of after) ≡ all
next_unread all now new n i rest line after h first is_line is_after put =
    let next : suc n ≡ n + 1 = omega arith in
    (λ k. put k ++ unread_from (sym next k) (lines_of (is_after k)))
    ∙ append_assoc now (unread_at n (is_unread line)) (unread_from (suc n) (lines_of (drop (i + 1) rest)))
    ∙ (λ k. now ++ (unread_at n (is_unread (is_line k)) ++ unread_from (suc n) (lines_of (drop (i + 1) rest))))
    ∙ ap (λ (ns : List ℕ). now ++ ns) (sym (unread_of_first n (take i rest) (lines_of (drop (i + 1) rest))))
    ∙ ap (λ (ls : List (List ℕ)). now ++ unread_from n ls) (sym (first_line rest i first))
    ∙ h

-- the last line was read
pub last_unread : (all now new : List ℕ) (n : ℕ) (rest : List ℕ) → now ++ unread_from n (lines_of rest) ≡ all → IsFirstByte (is_byte 10) rest None
    → new ≡ now ++ unread_at n (is_unread rest) → new ≡ all
last_unread all now new n rest h none put =
    put ∙ ap (λ (ns : List ℕ). now ++ ns) (sym (unread_of_first n rest [] ∙ append-nil (unread_at n (is_unread rest))))
    ∙ ap (λ (ls : List (List ℕ)). now ++ unread_from n ls) (sym (one_line rest none))
    ∙ h

-- ---- a line by its number

-- the first line is skipped
pub line_skipped : (rest after : List ℕ) (i k : ℕ) → 0 < k → IsFirstByte (is_byte 10) rest (Some i) → after ≡ drop (i + 1) rest
    → slice_get (lines_of after) (k - 1) ≡ slice_get (lines_of rest) k
line_skipped rest after i k low first is_after =
    let next : suc (k - 1) ≡ k = omega (arith, low) in
    (λ j. slice_get (lines_of (is_after j)) (k - 1)) ∙ ap (λ (ls : List (List ℕ)). slice_get ls (suc (k - 1))) (sym (first_line rest i first)) ∙ ap (slice_get (lines_of rest)) next

-- there is no line after the last
pub no_line_after : (rest : List ℕ) (k : ℕ) → 0 < k → IsFirstByte (is_byte 10) rest None → slice_get (lines_of rest) k ≡ None
no_line_after rest k low none =
    let next : k ≡ suc (k - 1) = omega (arith, low) in
    ap (slice_get (lines_of rest)) next ∙ ap (λ (ls : List (List ℕ)). slice_get ls (suc (k - 1))) (one_line rest none)

pub first_line_at : (rest : List ℕ) (i k : ℕ) → k ≡ 0 → IsFirstByte (is_byte 10) rest (Some i) → slice_get (lines_of rest) k ≡ Some (take i rest)
first_line_at rest i k zeroth first = λ j. slice_get (first_line rest i first j) (zeroth j)

pub only_line_at : (rest : List ℕ) (k : ℕ) → k ≡ 0 → IsFirstByte (is_byte 10) rest None → slice_get (lines_of rest) k ≡ Some rest
only_line_at rest k zeroth none = λ j. slice_get (one_line rest none j) (zeroth j)

-- the text of a line that is there, and of none
pub text_found : (file bytes line text : List ℕ) (number : ℕ) → bytes ≡ without_byte_order_mark file → Some line ≡ line_at (lines_of bytes) number → text ≡ line_text line
    → Some text ≡ line_text_at file number
unfolding line_text_at
text_found file bytes line text number after is is_text = ap Some is_text ∙ ap (option_map line_text) (is ∙ ap (λ (bs : List ℕ). line_at (lines_of bs) number) after)

pub no_text : (file bytes : List ℕ) (number : ℕ) → bytes ≡ without_byte_order_mark file → None ≡ line_at (lines_of bytes) number → None ≡ line_text_at file number
unfolding line_text_at
no_text file bytes number after is = ap (option_map line_text) (is ∙ ap (λ (bs : List ℕ). line_at (lines_of bs) number) after)
