-- What is stored of the rules of a file.
use Rattle.std.proofs.Common.{◌≡◌, ◌⊎◌, inl, inr, ℕ, zero, suc, ◌+◌, ◌<◌, ◌≤◌, List, [], ◌∷◌, ◌++◌, length, take, Bool, true, false, refl, ap, sym, ◌∙◌, arith}
use Rattle.std.specs.Prelude.{◌&&◌, ◌↔◌, IsOk, IsTrue, OnOk, Result, Ok, Err, Option, Some, None, if◌then◌else◌, slice_get}
use Rattle.std.proofs.lemmas.Bool.{cases_lt, false≢true}
use Rattle.std.proofs.lemmas.List.{length-map}
use Rattle.std.proofs.Math.Seq.{take-length}
use Rattle.bit_sets.specs.Indexes.{has_index}
use Rattle.bit_sets.specs.Texts.{AllBytes}
use Rattle.bit_sets.specs.declared.index_set.IndexSet.{IndexSet}
use Rattle.byte_nfa.specs.Steps.{IsReached, NfaValue}
use Rattle.engine.specs.Matching.{AddsReached}
use Rattle.ignore_pattern.specs.Automata.{IsAutomatonOf, SomeAbove, above_index, matches_at}
use Rattle.ignore_pattern.specs.Patterns.{Pattern, pattern_matches, applies}
use Rattle.git_ignore.specs.Rules.{Rule, last_rule, patterns_of, told, deciding_rule, rules_of}
use Rattle.git_ignore.specs.declared.entry.RuleEntry.{RuleEntry}
use Rattle.git_ignore.specs.inner.Entries.{is_for, entry_of, entry_of_rule, told_of, chosen, last_found, entries_of, AreStored}

-- ---- from entries to rules that decide

told_of_rule : (file : ℕ) (o : Option Rule) → told_of file (entry_of_rule o) ≡ told file o
told_of_rule file None = refl
told_of_rule file (Some rule) = refl

pub decided_by : (c : Bool) (bytes path : List ℕ) (file : ℕ) (is_folder : Bool) (e : Option RuleEntry) → e ≡ entry_of_rule (last_rule c path is_folder (rules_of bytes))
    → told_of file e ≡ deciding_rule c bytes file path is_folder
unfolding deciding_rule
decided_by c bytes path file is_folder e h = ap (told_of file) h ∙ told_of_rule file (last_rule c path is_folder (rules_of bytes))

-- ---- one rule more

-- the last one of a list and one more: that one, if it applies
or_later : {X : Type 0} (b c : Bool) (x y : X) (o : Option X)
    → (elim (if b then Some x else o) as (λ _. Option X) [ Some last ↦ Some last | None ↦ if c then Some y else None ])
    ≡ (if b then Some x else (elim o as (λ _. Option X) [ Some last ↦ Some last | None ↦ if c then Some y else None ]))
or_later true c x y o = refl
or_later false c x y o = refl

last_rule_more : (c : Bool) (path : List ℕ) (is_folder : Bool) (rules : List Rule) (r : Rule)
    → last_rule c path is_folder (rules ++ r ∷ []) ≡ (if applies c r.pattern path is_folder then Some r else last_rule c path is_folder rules)
last_rule_more c path f [] r = refl
last_rule_more c path f (q ∷ rules) r =
    ap (λ (o : Option Rule). elim o as (λ _. Option Rule) [ Some last ↦ Some last | None ↦ if applies c q.pattern path f then Some q else None ]) (last_rule_more c path f rules r)
    ∙ or_later (applies c r.pattern path f) (applies c q.pattern path f) r q (last_rule c path f rules)

-- ---- the entries that are found

-- a rule is the next after those below its index
record IsRuleAt (c : Bool) (path : List ℕ) (rules : List Rule) (k : ℕ) (r : Rule) : Type 0 where
  taken : take (suc k) rules ≡ take k rules ++ r ∷ []
  entry : slice_get (entries_of rules) k ≡ Some (entry_of r)
  matched : matches_at c (patterns_of rules) k path ≡ pattern_matches c r.pattern path

rule_there : (c : Bool) (path : List ℕ) (rules : List Rule) (k : ℕ) → k < length rules → (r : Rule) × IsRuleAt c path rules k r
rule_there c path [] k h = absurd (omega (arith, h))
rule_there c path (r ∷ rules) zero h = (r, record { taken = refl; entry = refl; matched = refl })
rule_there c path (r ∷ rules) (suc k) h =
    let later = rule_there c path rules k (omega (arith, h)) in
    (later.0, record { taken = ap (λ (rs : List Rule). r ∷ rs) later.1.taken; entry = later.1.entry; matched = later.1.matched })

found_or_before : (is_matched is_for : Bool) (r : Rule) (before : Option Rule)
    → (if is_matched then (if is_for then Some (entry_of r) else entry_of_rule before) else entry_of_rule before)
    ≡ entry_of_rule (if is_for && is_matched then Some r else before)
found_or_before true true r before = refl
found_or_before true false r before = refl
found_or_before false true r before = refl
found_or_before false false r before = refl

found_up_to : (c : Bool) (path : List ℕ) (is_folder : Bool) (is_found : ℕ → Bool) (rules : List Rule) → ((k : ℕ) → k < length rules → is_found k ≡ matches_at c (patterns_of rules) k path)
    → (n : ℕ) → n ≤ length rules → last_found is_found is_folder (entries_of rules) n ≡ entry_of_rule (last_rule c path is_folder (take n rules))
found_up_to c path f is_found rules same zero h = refl
found_up_to c path f is_found rules same (suc n) h =
    let there = rule_there c path rules n (omega (arith, h)) in
    let r : Rule = there.0 in
    let before : Option Rule = last_rule c path f (take n rules) in
    (λ i. let b = found_up_to c path f is_found rules same n (omega (arith, h)) i in if (same n (omega (arith, h)) ∙ there.1.matched) i then chosen f b (there.1.entry i) else b)
    ∙ found_or_before (pattern_matches c r.pattern path) (is_for f (entry_of r)) r before
    ∙ ap entry_of_rule (sym (last_rule_more c path f (take n rules) r) ∙ ap (last_rule c path f) (sym there.1.taken))

-- the last entry that is found belongs to the last rule that applies
pub found_is_last : (c : Bool) (path : List ℕ) (is_folder : Bool) (is_found : ℕ → Bool) (rules : List Rule) (entries es : List RuleEntry) (e : Option RuleEntry)
    → entries ≡ entries_of rules → es ≡ entries → ((k : ℕ) → k < length rules → is_found k ≡ matches_at c (patterns_of rules) k path)
    → e ≡ last_found is_found is_folder es (length es) → e ≡ entry_of_rule (last_rule c path is_folder rules)
found_is_last c path f is_found rules entries es e stored shown same is =
    let all : es ≡ entries_of rules = shown ∙ stored in
    is ∙ (λ i. last_found is_found f (all i) (length (all i))) ∙ ap (last_found is_found f (entries_of rules)) (length-map rules entry_of)
    ∙ found_up_to c path f is_found rules same (length rules) (omega arith)
    ∙ ap (λ (rs : List Rule). entry_of_rule (last_rule c path f rs)) (take-length rules)

-- ---- what a run finds

same_if_both : (a b : Bool) → (IsTrue a ↔ IsTrue b) → a ≡ b
same_if_both true true h = refl
same_if_both false false h = refl
same_if_both true false h = absurd (false≢true (h.0 refl))
same_if_both false true h = absurd (false≢true (h.1 refl))

-- a run finds the patterns that match
pub found_matches : (c : Bool) (ps : List Pattern) (m : NfaValue) (path : List ℕ) (before after : IndexSet) → IsAutomatonOf c ps m → AllBytes path
    → ((k : ℕ) → has_index before k ≡ false) → AddsReached m path before after → (k : ℕ) → k < length ps → has_index after k ≡ matches_at c ps k path
found_matches c ps m path before after is bytes none adds k low = same_if_both (has_index after k) (matches_at c ps k path) (
  λ h. of ((adds k).0 h),
  λ h. (adds k).1 (inl ((is.reached path k bytes low).1 h)),
)
  where
    of : IsReached m path k ⊎ IsTrue (has_index before k) → IsTrue (matches_at c ps k path)
    of (inl h) = (is.reached path k bytes low).0 h
    of (inr h) = absurd (false≢true (sym (none k) ∙ h))

-- a run finds the index that tells of folders above the path, if a pattern of this kind matches one
pub found_above : (c : Bool) (ps : List Pattern) (m : NfaValue) (path : List ℕ) (before after : IndexSet) (negated : Bool) → IsAutomatonOf c ps m → AllBytes path
    → AddsReached m path before after → has_index after (above_index (length ps) negated) ≡ false → SomeAbove c negated ps path → ⊥
found_above c ps m path before after negated is bytes adds lacks some =
    false≢true (sym lacks ∙ (adds (above_index (length ps) negated)).1 (inl ((is.above path negated bytes).1 some)))

-- there is an entry for each pattern
pub pattern_count : (c : Bool) (rules : List Rule) (m : NfaValue) (es : List RuleEntry) → AreStored c rules m es → length (patterns_of rules) ≡ length es
pattern_count c rules m es h = length-map rules (λ (rule : Rule). rule.pattern) ∙ sym (length-map rules entry_of) ∙ ap length (sym h.same_entries)

-- the automaton has an index for each entry, and two more
pub entry_count : (c : Bool) (rules : List Rule) (m : NfaValue) (es : List RuleEntry) → AreStored c rules m es → m.index_count ≡ length es + 2
entry_count c rules m es h = h.finds_patterns.count ∙ ap (λ (n : ℕ). n + 2) (pattern_count c rules m es h)

-- ---- the search for entries

none_between : (is_found : ℕ → Bool) (is_folder : Bool) (es : List RuleEntry) (from to : ℕ) → from ≤ to → ((k : ℕ) → from ≤ k → k < to → is_found k ≡ false)
    → last_found is_found is_folder es to ≡ last_found is_found is_folder es from
none_between is_found f es from zero h none = (let e : 0 ≡ from = omega (arith, h) in ap (last_found is_found f es) e)
none_between is_found f es from (suc to) h none = of (cases_lt to from) (λ low. none_between is_found f es from to low (λ k from_low high. none k from_low (omega (arith, high))))
  where
    of : (to < from) ⊎ (from ≤ to) → (from ≤ to → last_found is_found f es to ≡ last_found is_found f es from) → last_found is_found f es (suc to) ≡ last_found is_found f es from
    of (inl past) before = (let e : suc to ≡ from = omega (arith, h, past) in ap (last_found is_found f es) e)
    of (inr low) before =
        ap (λ (b : Bool). if b then chosen f (last_found is_found f es to) (slice_get es to) else last_found is_found f es to) (none to low (omega arith)) ∙ before low

-- no other index was found
pub all_searched : (is_found : ℕ → Bool) (is_folder : Bool) (es : List RuleEntry) (from : ℕ) (last : Option RuleEntry) → from ≤ length es
    → ((k : ℕ) → from ≤ k → k < length es → is_found k ≡ false) → last ≡ last_found is_found is_folder es from → last ≡ last_found is_found is_folder es (length es)
all_searched is_found f es from last h none is = is ∙ sym (none_between is_found f es from (length es) h none)

-- the next index was found
pub next_searched : (is_found : ℕ → Bool) (is_folder : Bool) (es : List RuleEntry) (from at : ℕ) (before after : Option RuleEntry) → from ≤ at → is_found at ≡ true
    → ((k : ℕ) → from ≤ k → k < at → is_found k ≡ false) → before ≡ last_found is_found is_folder es from → after ≡ chosen is_folder before (slice_get es at)
    → after ≡ last_found is_found is_folder es (at + 1)
next_searched is_found f es from at before after low found none is chose =
    let next : suc at ≡ at + 1 = omega arith in
    let same : before ≡ last_found is_found f es at = is ∙ sym (none_between is_found f es from at low none) in
    chose ∙ ap (λ (o : Option RuleEntry). chosen f o (slice_get es at)) same
    ∙ ap (λ (b : Bool). if b then chosen f (last_found is_found f es at) (slice_get es at) else last_found is_found f es at) (sym found)
    ∙ ap (last_found is_found f es) next

-- ---- facts after a call

pub from_ok : {X E P : Type 0} (r : Result X E) → IsOk r → OnOk r P → P
from_ok (Ok x) ok h = h
from_ok (Err e) ok h = absurd (false≢true ok)
