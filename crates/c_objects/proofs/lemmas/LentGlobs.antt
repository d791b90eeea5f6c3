-- Lent objects that are globs.
use Rattle.std.proofs.Common.{◌≡◌, ◌+◌, ◌<◌, ◌≤◌, ℕ, List, [], ◌∷◌, length, arith, subst, ap, refl, sym}
use Rattle.std.proofs.lemmas.List.{length-append, length-take-le, take_all}
use Rattle.std.proofs.lemmas.List.Elements.{All-more, All-nil, All-tail}
use Rattle.std.specs.Prelude.{Some, take, slice_index_or}
use Rattle.c_objects.specs.declared.lent.Lent.{Lent}
use Rattle.c_objects.specs.declared.object.Object.{Object}
use Rattle.c_objects.specs.declared.object.Object.TheVariants.{Glob, Matcher, MatcherSearcher, Builder, Set, Searcher, Answers, Ignore}
use Rattle.globset_glob.specs.GlobMatches.{GlobValue}
use Rattle.c_objects.specs.Kinds.{IfGlob, IsGlob}
use Rattle.c_objects.specs.LentGlobs.{AreGlobs, glob_in, lent_globs}

pub no_globs_yet : AreGlobs []
unfolding AreGlobs
no_globs_yet = All-nil (λ (l : Lent). IsGlob (Some l.object))

pub next_are_globs : (ls : List Lent) (i : ℕ) (d : Lent) → i < length ls → AreGlobs (take i ls) → IsGlob (Some (slice_index_or ls i d).object) → AreGlobs (take (i + 1) ls)
unfolding AreGlobs
next_are_globs ls i d lt h g = All-more (λ (l : Lent). IsGlob (Some l.object)) ls i d lt h g

pub other_than_a_glob : (ls : List Lent) (i : ℕ) (d : Lent) → i < length ls → ¬ (IsGlob (Some (slice_index_or ls i d).object)) → ¬ (AreGlobs ls)
unfolding AreGlobs
other_than_a_glob ls i d lt not h = not (h i d lt)

pub all_are_globs : (ls : List Lent) (n : ℕ) → length ls ≤ n → AreGlobs (take n ls) → AreGlobs ls
all_are_globs ls n le h = subst (λ (xs : List Lent). AreGlobs xs) (take_all n ls le) h

one_at_most : (o : Object) → length (glob_in o) ≤ 1
one_at_most (Glob g) = omega arith
one_at_most (Matcher o) = omega arith
one_at_most (Builder o) = omega arith
one_at_most (Set o) = omega arith
one_at_most (MatcherSearcher o) = omega arith
one_at_most (Searcher o) = omega arith
one_at_most (Answers o) = omega arith
one_at_most (Ignore o) = omega arith

one_each : (o : Object) → IsGlob (Some o) → length (glob_in o) ≡ 1
one_each (Glob g) h = refl
one_each (Matcher o) h = absurd h
one_each (Builder o) h = absurd h
one_each (Set o) h = absurd h
one_each (MatcherSearcher o) h = absurd h
one_each (Searcher o) h = absurd h
one_each (Answers o) h = absurd h
one_each (Ignore o) h = absurd h

-- The glob of an object, where a copy is equal to it.
pub the_glob : (o : Object) (c : GlobValue) → IfGlob (Some o) (λ g. c ≡ g) → glob_in o ≡ c ∷ []
the_glob (Glob g) c e = ap (λ (x : GlobValue). x ∷ []) (sym e)
the_glob (Matcher o) c e = absurd e
the_glob (Builder o) c e = absurd e
the_glob (Set o) c e = absurd e
the_glob (MatcherSearcher o) c e = absurd e
the_glob (Searcher o) c e = absurd e
the_glob (Answers o) c e = absurd e
the_glob (Ignore o) c e = absurd e

at_most : (ls : List Lent) → length (lent_globs ls) ≤ length ls
at_most [] = omega arith
at_most (l ∷ ls) = omega (arith, length-append (glob_in l.object) (lent_globs ls), one_at_most l.object, at_most ls)

-- Fewer globs are added than there are handles.
pub few_globs : (ls : List Lent) (i : ℕ) → i < length ls → length (lent_globs (take i ls)) < length ls
few_globs ls i lt = omega (arith, at_most (take i ls), length-take-le i ls (omega arith))

-- Where each object is a glob, there are as many globs as handles.
pub as_many_globs : (ls : List Lent) → AreGlobs ls → length (lent_globs ls) ≡ length ls
unfolding AreGlobs
as_many_globs [] h = refl
as_many_globs (l ∷ ls) h =
    let P : Lent → Type 0 = λ (x : Lent). IsGlob (Some x.object) in
    omega (arith, length-append (glob_in l.object) (lent_globs ls), one_each l.object (h 0 l (omega arith)), as_many_globs ls (All-tail P l ls h))

pub all_globs : (ls : List Lent) (n : ℕ) → length ls ≤ n → lent_globs (take n ls) ≡ lent_globs ls
all_globs ls n le = ap lent_globs (take_all n ls le)
