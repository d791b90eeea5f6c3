use Rattle.std.proofs.Common.{◌≡◌, ◌+◌, ◌*◌, ◌<◌, ◌≤◌, ◌++◌, ◌∷◌, [], List, get_or, length, refl, ap, sym, subst, ◌∙◌, true≢false, arith}
use Rattle.std.proofs.lemmas.List.{take_all}
use Rattle.byte_nfa.specs.Live.{MatchesAfter}
use Rattle.byte_nfa.specs.Steps.{NfaValue}
use Rattle.set_matcher.specs.inner.Automata.{ExtensionParts, total_reads}
use Rattle.engine.specs.Memory.{Fits}
use Rattle.engine.proofs.lemmas.Memory.{fits_still, kept_twice}
use Rattle.set_matcher.proofs.lemmas.ExtensionMatchers.{is_at, none_limit, size_within, visits_more, visits_within}
use Rattle.set_matcher.proofs.automata.matchers.ExtensionMatchers.can_match_after.Goals as goal

pub loop-slot-preserved : goal.loop-slot-preserved
loop-slot-preserved c =
    let inv = c.loop-slot.invariant in
    let nfas = c.args.self.now.nfas in
    let i = c.loop-slot.slot in
    let m = c.automaton-item.result in
    let same : c.deref-automaton-items.result.now ≡ nfas = c.deref-automaton-items.ensures.value ∙ ap (λ (e : ExtensionParts). e.nfas) c.self.view_is in
    let lt : i < length nfas = omega (arith, c.loop-slot-test.true, ap length same) in
    let is = subst (λ (ms : List NfaValue). m ≡ get_or ms i m) same c.automaton-item.is in
    record {
      none = none_limit nfas i m lt is (λ x. MatchesAfter x (c.args.text.now ++ c.args.byte ∷ [])) inv.none (λ some. true≢false (sym (c.in_ok-can_match_after.ensures.some.1 some) ∙ c.if-branch.false));
      kept = kept_twice inv.kept c.can_match_after.ensures.kept;
      visits = visits_more nfas i m lt is (length c.args.text.now + 2) c.args.visits.now c.loop-slot.visits c.can_match_after.new.visits c.can_match_after.ensures.visits inv.visits;
      counted = omega (arith, c.can_match_after.ensures.counted, inv.counted);
    }

pub returns-then-branch-clause-some : goal.returns-then-branch-clause-some
returns-then-branch-clause-some c =
    let nfas = c.args.self.now.nfas in
    let i = c.loop-slot.slot in
    let m = c.automaton-item.result in
    let same : c.deref-automaton-items.result.now ≡ nfas = c.deref-automaton-items.ensures.value ∙ ap (λ (e : ExtensionParts). e.nfas) c.self.view_is in
    let lt : i < length nfas = omega (arith, c.loop-slot-test.true, ap length same) in
    let is = subst (λ (ms : List NfaValue). m ≡ get_or ms i m) same c.automaton-item.is in
    let y = c.args.text.now ++ c.args.byte ∷ [] in
    (λ yes. (i, lt, subst (λ x. MatchesAfter x y) (is_at nfas i m lt is) (c.in_ok-can_match_after.ensures.some.0 c.if-branch.true)), λ some. refl)

pub returns-then-branch-clause-visits : goal.returns-then-branch-clause-visits
returns-then-branch-clause-visits c =
    let nfas = c.args.self.now.nfas in
    let i = c.loop-slot.slot in
    let m = c.automaton-item.result in
    let same : c.deref-automaton-items.result.now ≡ nfas = c.deref-automaton-items.ensures.value ∙ ap (λ (e : ExtensionParts). e.nfas) c.self.view_is in
    let lt : i < length nfas = omega (arith, c.loop-slot-test.true, ap length same) in
    let is = subst (λ (ms : List NfaValue). m ≡ get_or ms i m) same c.automaton-item.is in
    visits_within nfas i m lt is (length c.args.text.now + 2) c.args.visits.now c.loop-slot.visits c.can_match_after.new.visits c.can_match_after.ensures.visits c.loop-slot.invariant.visits

pub returns-in_err-can_match_after-clause-visits : goal.returns-in_err-can_match_after-clause-visits
returns-in_err-can_match_after-clause-visits c =
    let nfas = c.args.self.now.nfas in
    let i = c.loop-slot.slot in
    let m = c.automaton-item.result in
    let same : c.deref-automaton-items.result.now ≡ nfas = c.deref-automaton-items.ensures.value ∙ ap (λ (e : ExtensionParts). e.nfas) c.self.view_is in
    let lt : i < length nfas = omega (arith, c.loop-slot-test.true, ap length same) in
    let is = subst (λ (ms : List NfaValue). m ≡ get_or ms i m) same c.automaton-item.is in
    visits_within nfas i m lt is (length c.args.text.now + 2) c.args.visits.now c.loop-slot.visits c.can_match_after.new.visits c.can_match_after.ensures.visits c.loop-slot.invariant.visits

pub returns-in_err-can_match_after-clause-room : goal.returns-in_err-can_match_after-clause-room
returns-in_err-can_match_after-clause-room c = λ enough.
    let nfas = c.args.self.now.nfas in
    let i = c.loop-slot.slot in
    let m = c.automaton-item.result in
    let same : c.deref-automaton-items.result.now ≡ nfas = c.deref-automaton-items.ensures.value ∙ ap (λ (e : ExtensionParts). e.nfas) c.self.view_is in
    let lt : i < length nfas = omega (arith, c.loop-slot-test.true, ap length same) in
    let is = subst (λ (ms : List NfaValue). m ≡ get_or ms i m) same c.automaton-item.is in
    let size = size_within nfas i m lt is in
    absurd (true≢false (sym (c.in_err-can_match_after.ensures.memory (omega (arith, size, enough, c.loop-slot.invariant.kept.room)))))

pub returns-clause-some : goal.returns-clause-some
returns-clause-some c =
    let nfas = c.args.self.now.nfas in
    let same : c.deref-automaton-items.result.now ≡ nfas = c.deref-automaton-items.ensures.value ∙ ap (λ (e : ExtensionParts). e.nfas) c.self.view_is in (
      λ yes. absurd (true≢false (sym yes)),
      λ (s, lt, some). absurd (c.loop-slot.invariant.none s (omega (arith, lt, c.loop-slot-test.false, ap length same)) some),
    )

pub returns-in_err-can_match_after-clause-kept : goal.returns-in_err-can_match_after-clause-kept
returns-in_err-can_match_after-clause-kept c = kept_twice c.loop-slot.invariant.kept c.can_match_after.ensures.kept

pub returns-in_err-can_match_after-clause-counted : goal.returns-in_err-can_match_after-clause-counted
returns-in_err-can_match_after-clause-counted c = omega (arith, c.can_match_after.ensures.counted, c.loop-slot.invariant.counted)

pub returns-then-branch-clause-kept : goal.returns-then-branch-clause-kept
returns-then-branch-clause-kept c = kept_twice c.loop-slot.invariant.kept c.can_match_after.ensures.kept

pub returns-then-branch-clause-counted : goal.returns-then-branch-clause-counted
returns-then-branch-clause-counted c = omega (arith, c.can_match_after.ensures.counted, c.loop-slot.invariant.counted)

pub returns-clause-kept : goal.returns-clause-kept
returns-clause-kept c = c.loop-slot.invariant.kept

pub returns-clause-counted : goal.returns-clause-counted
returns-clause-counted c = c.loop-slot.invariant.counted

pub returns-clause-visits : goal.returns-clause-visits
returns-clause-visits c =
    let nfas = c.args.self.now.nfas in
    let same : c.deref-automaton-items.result.now ≡ nfas = c.deref-automaton-items.ensures.value ∙ ap (λ (e : ExtensionParts). e.nfas) c.self.view_is in
    subst (λ (ms : List NfaValue). c.loop-slot.visits ≤ c.args.visits.now + (length c.args.text.now + 2) * total_reads ms)
    (take_all c.loop-slot.slot nfas (omega (arith, c.loop-slot-test.false, ap length same))) c.loop-slot.invariant.visits

pub can_match_after-requires : goal.can_match_after-requires
can_match_after-requires c =
    let nfas = c.args.self.now.nfas in
    let i = c.loop-slot.slot in
    let m = c.automaton-item.result in
    let same : c.deref-automaton-items.result.now ≡ nfas = c.deref-automaton-items.ensures.value ∙ ap (λ (e : ExtensionParts). e.nfas) c.self.view_is in
    let lt : i < length nfas = omega (arith, c.loop-slot-test.true, ap length same) in
    let is = subst (λ (ms : List NfaValue). m ≡ get_or ms i m) same c.automaton-item.is in
    fits_still (i + 2) m c.loop-slot.invariant.kept (subst (Fits c.args.memory.now (i + 2)) (sym (is_at nfas i m lt is)) (c.requires i))
