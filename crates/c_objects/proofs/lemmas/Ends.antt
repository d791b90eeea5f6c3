-- One more path of many.
use Rattle.std.proofs.Common.{◌≡◌, ◌+◌, ◌<◌, ◌≤◌, ℕ, List, Option, [], ◌∷◌, ◌++◌, length, map, sym, ap, ◌∙◌, subst, append_assoc, slice_set}
use Rattle.std.proofs.lemmas.List.{append-nil, take_all, take_more_set}
use Rattle.std.specs.Prelude.{slice_range, take}
use Rattle.globset_glob.specs.GlobMatches.{GlobValue}
use Rattle.git_ignore.specs.StackValue.{StackValue}
use Rattle.git_ignore.specs.declared.decision.DecidingRule.{DecidingRule}
use Rattle.c_objects.specs.Ignoring.{path_rule, path_rules}
use Rattle.c_objects.specs.Paths.{AreEnds, answer_byte, answers_for}

pub next_answer : (globs : List GlobValue) (bytes answers all rest tail : List ℕ) (count start end : ℕ) → rest ≡ end ∷ tail → count < length answers
    → take count answers ++ answers_for globs bytes start rest ≡ all
    → take (count + 1) (slice_set answers count (answer_byte globs (slice_range bytes start end))) ++ answers_for globs bytes end tail ≡ all
next_answer globs bytes answers all rest tail count start end e lt h =
    let done = take count answers in let b = answer_byte globs (slice_range bytes start end) in
    ap (λ written. written ++ answers_for globs bytes end tail) (take_more_set answers count b lt)
    ∙ append_assoc done (b ∷ []) (answers_for globs bytes end tail) ∙ ap (λ r. done ++ answers_for globs bytes start r) (sym e) ∙ h

pub all_answers : (globs : List GlobValue) (bytes answers all rest : List ℕ) (count start : ℕ) → rest ≡ [] → length answers ≤ count
    → take count answers ++ answers_for globs bytes start rest ≡ all
    → answers ≡ all
all_answers globs bytes answers all rest count start e le h =
    sym (take_all count answers le) ∙ sym (append-nil (take count answers)) ∙ ap (λ r. take count answers ++ answers_for globs bytes start r) (sym e) ∙ h

pub next_told : {T : Type 0} (tell : Option DecidingRule → T) (s : StackValue) (by : ℕ) (bytes : List ℕ) (done all : List T) (rest tail : List ℕ) (start end : ℕ) → rest ≡ end ∷ tail
    → done ++ map tell (path_rules s by bytes start rest) ≡ all
    → (done ++ tell (path_rule s by (slice_range bytes start end)) ∷ []) ++ map tell (path_rules s by bytes end tail) ≡ all
next_told tell s by bytes done all rest tail start end e h =
    append_assoc done (tell (path_rule s by (slice_range bytes start end)) ∷ []) (map tell (path_rules s by bytes end tail)) ∙ ap (λ r. done ++ map tell (path_rules s by bytes start r)) (sym e) ∙ h

pub ends_join : (len start end : ℕ) (rest tail : List ℕ) → rest ≡ end ∷ tail → start ≤ end → end ≤ len → AreEnds len end tail → AreEnds len start rest
ends_join len start end rest tail e a b h = let P : List ℕ → Type 0 = λ r. AreEnds len start r in subst P (sym e) (a, b, h)

pub ends_part : (len start end : ℕ) (rest tail : List ℕ) → rest ≡ end ∷ tail → AreEnds len start rest → (start ≤ end) × (end ≤ len) × AreEnds len end tail
ends_part len start end rest tail e h = let P : List ℕ → Type 0 = λ r. AreEnds len start r in subst P e h

pub no_ends_left : (len start : ℕ) (rest : List ℕ) → rest ≡ [] → AreEnds len start rest
no_ends_left len start rest e = let P : List ℕ → Type 0 = λ r. AreEnds len start r in subst P (sym e) tt
