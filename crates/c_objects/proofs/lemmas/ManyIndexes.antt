-- The indexes of one more path of many.
use Rattle.std.proofs.Common.{◌≡◌, ◌+◌, ℕ, Bool, false, true≢false, List, [], ◌∷◌, ◌++◌, length, arith, sym, ap, ◌∙◌, append_assoc}
use Rattle.std.specs.Prelude.{◌==◌, slice_range}
use Rattle.globset.specs.Answer.{matching_indexes}
use Rattle.globset_glob.specs.GlobMatches.{GlobValue}
use Rattle.c_objects.specs.Paths.{ends_among, indexes_for, last_indexes_for, paths_from}

pub next_indexes : (globs : List GlobValue) (bytes done all rest tail : List ℕ) (start end : ℕ) → rest ≡ end ∷ tail
    → done ++ indexes_for globs bytes start rest ≡ all
    → (done ++ matching_indexes globs (slice_range bytes start end)) ++ indexes_for globs bytes end tail ≡ all
next_indexes globs bytes done all rest tail start end e h =
    append_assoc done (matching_indexes globs (slice_range bytes start end)) (indexes_for globs bytes end tail) ∙ ap (λ r. done ++ indexes_for globs bytes start r) (sym e) ∙ h

pub next_end : (globs : List GlobValue) (bytes done all rest tail : List ℕ) (start end before after : ℕ) → rest ≡ end ∷ tail
    → after ≡ before + length (matching_indexes globs (slice_range bytes start end))
    → done ++ ends_among globs before (paths_from bytes start rest) ≡ all
    → (done ++ after ∷ []) ++ ends_among globs after (paths_from bytes end tail) ≡ all
next_end globs bytes done all rest tail start end before after e a h =
    append_assoc done (after ∷ []) (ends_among globs after (paths_from bytes end tail))
    ∙ ap (λ n. done ++ n ∷ ends_among globs n (paths_from bytes end tail)) a
    ∙ ap (λ r. done ++ ends_among globs before (paths_from bytes start r)) (sym e) ∙ h

pub next_last : (globs : List GlobValue) (bytes found found' all rest tail : List ℕ) (start end : ℕ) → rest ≡ end ∷ tail
    → found' ≡ matching_indexes globs (slice_range bytes start end)
    → last_indexes_for globs found bytes start rest ≡ all
    → last_indexes_for globs found' bytes end tail ≡ all
next_last globs bytes found found' all rest tail start end e f h =
    ap (λ x. last_indexes_for globs x bytes end tail) f ∙ ap (λ r. last_indexes_for globs found bytes start r) (sym e) ∙ h

pub only_last : (globs : List GlobValue) (bytes found all rest tail : List ℕ) (start end : ℕ) → rest ≡ end ∷ tail → length tail ≡ 0
    → last_indexes_for globs found bytes start rest ≡ all
    → matching_indexes globs (slice_range bytes start end) ≡ all
only_last globs bytes found all rest [] start end e n h = ap (λ r. last_indexes_for globs found bytes start r) (sym e) ∙ h
only_last globs bytes found all rest (x ∷ xs) start end e n h = absurd (omega arith)

pub skip : (globs : List GlobValue) (bytes found all rest tail : List ℕ) (start end : ℕ) (b : Bool) → rest ≡ end ∷ tail
    → b ≡ (length tail == 0) → b ≡ false
    → last_indexes_for globs found bytes start rest ≡ all
    → last_indexes_for globs found bytes end tail ≡ all
skip globs bytes found all rest [] start end b e f q h = absurd (true≢false (sym f ∙ q))
skip globs bytes found all rest (x ∷ xs) start end b e f q h = ap (λ r. last_indexes_for globs found bytes start r) (sym e) ∙ h
