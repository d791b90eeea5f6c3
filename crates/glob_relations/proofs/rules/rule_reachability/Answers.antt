use Rattle.std.proofs.Common.{◌≡◌, ℕ, inl, inr, Bool, List, sym, subst, ◌∙◌}
use Rattle.std.specs.Prelude.{◌↔◌, Contains}
use Rattle.bit_sets.specs.Texts.{AllBytes}
use Rattle.byte_nfa.specs.Steps.{IsReached}
use Rattle.ignore_pattern.specs.Patterns.{Pattern}
use Rattle.glob_relations.specs.Rules.{IsDecided, IsHidden, IsHiddenBy, IsRival}
use Rattle.glob_relations.specs.inner.Closed.{IsClosedAbove, IsOpen, ignores_of}
use Rattle.glob_relations.specs.inner.Rows.{IsAskedText}
use Rattle.glob_relations.proofs.lemmas.Domains.{is_in}
use Rattle.glob_relations.proofs.lemmas.Hiding.{asked_decided, closed_hides, finds_from, open_shows}
use Rattle.glob_relations.proofs.lemmas.Rivals.{rival_below, shortest_decided, never_decides}
use Rattle.glob_relations.proofs.lemmas.Told.{shortest_same}
use Rattle.glob_relations.proofs.rules.rule_reachability.Goals as goal

pub reachability_among-requires-clause-within : goal.reachability_among-requires-clause-within
reachability_among-requires-clause-within c = λ k at.
    rival_below c.args.patterns.now c.args.i k c.args.pattern.now ((c.in_ok-others.ensures k).0 (subst (λ (xs : List ℕ). Contains xs k) c.deref.ensures.value at))

pub returns-in-Never : goal.returns-in-Never
returns-in-Never c =
    let ps : List Pattern = c.args.patterns.now in
    let q : Pattern = c.args.pattern.now in
    let now : List ℕ = c.deref.result.now in
    let all : (k : ℕ) → Contains now k ↔ IsRival ps c.args.i q k = subst (λ (xs : List ℕ). (k : ℕ) → Contains xs k ↔ IsRival ps c.args.i q k) (sym c.deref.ensures.value) c.in_ok-others.ensures in
    let is = rw c.in-Never.is at c.in_ok-path.ensures in
    never_decides c.args.ignore_case ps c.args.i q c.args.question.now.domain now all c.in-Never.set.items is

pub returns-in-Unknown : goal.returns-in-Unknown
returns-in-Unknown c =
    let ps : List Pattern = c.args.patterns.now in
    let q : Pattern = c.args.pattern.now in
    let now : List ℕ = c.deref.result.now in
    let all : (k : ℕ) → Contains now k ↔ IsRival ps c.args.i q k = subst (λ (xs : List ℕ). (k : ℕ) → Contains xs k ↔ IsRival ps c.args.i q k) (sym c.deref.ensures.value) c.in_ok-others.ensures in
    let (by, within, tells) = rw c.in-Unknown.is at c.in_ok-path.ensures in
    (by, λ k at. (all k).0 (within k at), inl tells)

pub returns-in_default : goal.returns-in_default
returns-in_default c =
    let ps : List Pattern = c.args.patterns.now in
    let q : Pattern = c.args.pattern.now in
    let m = c.args.automaton.now in
    let domain = c.args.question.now.domain in
    let now : List ℕ = c.deref.result.now in
    let all : (k : ℕ) → Contains now k ↔ IsRival ps c.args.i q k = subst (λ (xs : List ℕ). (k : ℕ) → Contains xs k ↔ IsRival ps c.args.i q k) (sym c.deref.ensures.value) c.in_ok-others.ensures in
    let path : List ℕ = c.in-Decides.path.items in
    let shortest = shortest_decided c.args.ignore_case ps c.args.i q domain now all path (rw c.in-Decides.is at c.in_ok-path.ensures) in
    let bytes : AllBytes path = ((is_in domain path).0 shortest.0.0).0 in
    let clear = rw c.in_default.is at c.in_ok-k.ensures in
    let here : IsOpen (ignores_of ps) 0 (IsReached m) path = subst (λ (l : List Bool). IsOpen l 0 (IsReached m) path) (c.deref-2.ensures.value ∙ c.requires.ignores)
    (subst (λ (y : List ℕ). IsOpen c.deref-2.result.now 0 (IsReached m) y) c.deref-3.ensures.value clear) in
    let shown : IsHidden c.args.ignore_case ps path → ⊥ = (open_shows c.args.ignore_case 0 ps m (finds_from c.args.ignore_case ps m c.requires.finds) path bytes).0 here in
    ((shortest.0, shown), λ other decided. shortest.1 other decided.0)

pub automaton_of_rule-requires : goal.automaton_of_rule-requires
automaton_of_rule-requires c = λ k at.
    rival_below c.args.patterns.now c.args.i k c.args.pattern.now ((c.in_ok-others.ensures k).0 (subst (λ (xs : List ℕ). Contains xs k) c.deref-4.ensures.value at))

pub returns-in-Found : goal.returns-in-Found
returns-in-Found c =
    let ps : List Pattern = c.args.patterns.now in
    let q : Pattern = c.args.pattern.now in
    let n = c.args.question.now in
    let now : List ℕ = c.deref-4.result.now in
    let all : (k : ℕ) → Contains now k ↔ IsRival ps c.args.i q k = subst (λ (xs : List ℕ). (k : ℕ) → Contains xs k ↔ IsRival ps c.args.i q k) (sym c.deref-4.ensures.value) c.in_ok-others.ensures in
    let found = rw c.in-Found.is at c.in_ok-shown.ensures in
    shortest_same (IsAskedText c.in_ok-all.all n) (IsDecided c.args.ignore_case ps c.args.i q n.domain) c.in-Found.shown.items
    (asked_decided c.args.ignore_case ps c.args.i q now all c.in_ok-all.all n c.in_ok-all.ensures c.requires.required c.requires.ignores) found

pub returns-in-Nothing : goal.returns-in-Nothing
returns-in-Nothing c =
    let ps : List Pattern = c.args.patterns.now in
    let q : Pattern = c.args.pattern.now in
    let n = c.args.question.now in
    let m = c.args.automaton.now in
    let now : List ℕ = c.deref.result.now in
    let all : (k : ℕ) → Contains now k ↔ IsRival ps c.args.i q k = subst (λ (xs : List ℕ). (k : ℕ) → Contains xs k ↔ IsRival ps c.args.i q k) (sym c.deref.ensures.value) c.in_ok-others.ensures in
    let now' : List ℕ = c.deref-4.result.now in
    let all' : (k : ℕ) → Contains now' k ↔ IsRival ps c.args.i q k = subst (λ (xs : List ℕ). (k : ℕ) → Contains xs k ↔ IsRival ps c.args.i q k) (sym c.deref-4.ensures.value) c.in_ok-others.ensures in
    let k : ℕ = c.in-Some.k in
    let path : List ℕ = c.in-Decides.path.items in
    let shortest = shortest_decided c.args.ignore_case ps c.args.i q n.domain now all path (rw c.in-Decides.is at c.in_ok-path.ensures) in
    let bytes : AllBytes path = ((is_in n.domain path).0 shortest.0.0).0 in
    let none = rw c.in-Nothing.is at c.in_ok-shown.ensures in
    let closed = rw c.in-Some.is at c.in_ok-k.ensures in
    let here : IsClosedAbove (ignores_of ps) 0 (IsReached m) path k = subst (λ (l : List Bool). IsClosedAbove l 0 (IsReached m) path k) (c.deref-2.ensures.value ∙ c.requires.ignores)
    (subst (λ (y : List ℕ). IsClosedAbove c.deref-2.result.now 0 (IsReached m) y k) c.deref-3.ensures.value closed) in
    let hidden : IsHiddenBy c.args.ignore_case ps path k = closed_hides c.args.ignore_case 0 ps m (finds_from c.args.ignore_case ps m c.requires.finds) path bytes k here in
    record {
      never = λ y decided. none y ((asked_decided c.args.ignore_case ps c.args.i q now' all' c.in_ok-all.all n c.in_ok-all.ensures c.requires.required c.requires.ignores y).1 decided);
      alone = (path, shortest, hidden);
    }

pub returns : goal.returns
returns c =
    let more = rw c.in-Limit.is at c.in_ok-shown.ensures in
    (c.deref-4.result.now, λ k at. (c.in_ok-others.ensures k).0 (subst (λ (xs : List ℕ). Contains xs k) c.deref-4.ensures.value at), inr (c.in_ok-all.all, c.in_ok-all.ensures, more))
