-- `==` of errors, and of their kinds, is that of their fields.
use Rattle.std.proofs.Common.{◌≡◌, Bool, [], Option, None, Some, ◌↔◌, IsTrue, ap, sym, refl, subst, true≢false}
use Rattle.std.specs.Bool.{Decides}
use Rattle.std.specs.Cmp.{IsEquivalence, unsigned_Decides}
use Rattle.std.specs.Cmp.Lexicographic.{options_equiv}
use Rattle.std.specs.Option.{option_eq}
use Rattle.std.proofs.lemmas.Bool.Decides.{Decides-and}
use Rattle.std.proofs.lemmas.Cmp.{nat_eq_equiv, nat_list_eq_equiv}
use Rattle.std.proofs.lemmas.Slice.Eq.{bytes_eq-Decides}
use Rattle.glob_text.specs.declared.error.ErrorKind.{ErrorKind}
use Rattle.glob_text.specs.declared.error.ErrorKind.TheVariants as kinds
use Rattle.glob_text.specs.declared.value_error.ValueErrorKind.{ValueErrorKind}
use Rattle.glob_text.specs.declared.value_error.ValueErrorKind.TheVariants as causes
use Rattle.glob_text.specs.Errors.{ErrorValue}
use Rattle.glob_text.specs.ValueErrors.{ValueErrorValue}
use Rattle.glob_text.specs.Equality.{SameKind, SameError, SameValueKind, SameValueError}
use Rattle.glob_text.specs.inner.Equality.{same_kind, same_kind_laws, same_error, same_value_kind, same_value_kind_laws, same_value_error}

same_option : {X : Type 0} (test : X → X → Bool) → ((x y : X) → Decides (test x y) (x ≡ y)) → (o p : Option X) → IsTrue (option_eq test o p) → o ≡ p
same_option test decides None None h = refl
same_option test decides (Some x) (Some y) h = ap Some ((decides x y).0 h)
same_option test decides _ _ h = absurd (true≢false (sym h))

-- `==` of options is that of what they hold
options_decide : {X : Type 0} {test : X → X → Bool} → IsEquivalence test → ((x y : X) → Decides (test x y) (x ≡ y)) → (o p : Option X) → Decides (option_eq test o p) (o ≡ p)
options_decide {X} {test} laws decides o p = (same_option test decides o p, λ e. subst (λ q. IsTrue (option_eq test o q)) e ((options_equiv laws).refl o))

kinds_are_same : (k l : ErrorKind) → IsTrue (same_kind k l) → SameKind k l
kinds_are_same kinds.UnclosedClass kinds.UnclosedClass h = refl
kinds_are_same (kinds.InvalidRange s e) (kinds.InvalidRange t f) h =
    let ends = (Decides-and _ _ (unsigned_Decides s t) (Decides-and _ _ (unsigned_Decides e f) (bytes_eq-Decides [] []))).0 h in
    λ i. kinds.InvalidRange (ends.0 i) (ends.1.0 i)
kinds_are_same kinds.UnopenedAlternates kinds.UnopenedAlternates h = refl
kinds_are_same kinds.UnclosedAlternates kinds.UnclosedAlternates h = refl
kinds_are_same kinds.DanglingEscape kinds.DanglingEscape h = refl
kinds_are_same kinds.OutOfMemory kinds.OutOfMemory h = refl
kinds_are_same kinds.InvalidRecursive kinds.InvalidRecursive h = refl
kinds_are_same kinds.NestedAlternates kinds.NestedAlternates h = refl
kinds_are_same (kinds.Regex text) (kinds.Regex other) h = (bytes_eq-Decides _ _).0 h
kinds_are_same _ _ h = absurd (true≢false (sym h))

same_kinds_are_equal : (k l : ErrorKind) → SameKind k l → IsTrue (same_kind k l)
same_kinds_are_equal (kinds.Regex text) (kinds.Regex other) e = (bytes_eq-Decides _ _).1 e
same_kinds_are_equal k l e = subst (λ m. IsTrue (same_kind k m)) e (same_kind_laws.refl k)

-- Kinds are equal if their variants are, and what those hold.
pub equal_kinds : (k l : ErrorKind) → IsTrue (same_kind k l) ↔ SameKind k l
equal_kinds k l = (kinds_are_same k l, same_kinds_are_equal k l)

pub equal_errors : (e f : ErrorValue) → IsTrue (same_error e f) ↔ SameError e f
equal_errors e f = Decides-and _ _ (options_decide nat_list_eq_equiv bytes_eq-Decides e.glob f.glob) (equal_kinds e.kind f.kind)

value_kinds_are_same : (k l : ValueErrorKind) → IsTrue (same_value_kind k l) → SameValueKind k l
value_kinds_are_same causes.NotText causes.NotText h = refl
value_kinds_are_same causes.UnknownKey causes.UnknownKey h = refl
value_kinds_are_same causes.NotBool causes.NotBool h = refl
value_kinds_are_same causes.NotArray causes.NotArray h = refl
value_kinds_are_same (causes.Glob e) (causes.Glob f) h = (equal_errors e f).0 h
value_kinds_are_same _ _ h = absurd (true≢false (sym h))

same_value_kinds_are_equal : (k l : ValueErrorKind) → SameValueKind k l → IsTrue (same_value_kind k l)
same_value_kinds_are_equal (causes.Glob e) (causes.Glob f) s = (equal_errors e f).1 s
same_value_kinds_are_equal k l e = subst (λ m. IsTrue (same_value_kind k m)) e (same_value_kind_laws.refl k)

-- Kinds of errors of values are equal if their variants are, and the errors that those hold.
pub equal_value_kinds : (k l : ValueErrorKind) → IsTrue (same_value_kind k l) ↔ SameValueKind k l
equal_value_kinds k l = (value_kinds_are_same k l, same_value_kinds_are_equal k l)

pub equal_value_errors : (e f : ValueErrorValue) → IsTrue (same_value_error e f) ↔ SameValueError e f
equal_value_errors e f = Decides-and _ _ (options_decide nat_eq_equiv unsigned_Decides e.index f.index) (equal_value_kinds e.kind f.kind)
