use Rattle.std.proofs.Common.{inl, inr, ℕ, ◌+◌, ◌*◌, ◌≤◌, length, refl, ap, sym, subst, ◌∙◌, true≢false}
use Rattle.std.specs.Prelude.{◌↔◌, IsTrue}
use Rattle.std.proofs.lemmas.Result.{IfOk-weaker}
use Rattle.byte_nfa.specs.Runs.{max_reads}
use Rattle.byte_nfa.specs.Steps.{IsReached}
use Rattle.glob_strategy.specs.IndexedTokens.{IsFor}
use Rattle.glob_strategy.proofs.lemmas.IndexedTokens.{has_matches, reached_matches}
use Rattle.glob_path.specs.PathParts.{component_extension, last_component}
use Rattle.set_matcher.specs.inner.Automata.{AutomataParts, TokenLists, AreForLists, AreFound, before_extension, nfa_at, nfa_under, tokens_under}
use Rattle.bit_sets.proofs.lemmas.Booleans.{iff_trans}
use Rattle.set_matcher.proofs.lemmas.Automata.{before_bytes, component_bytes, last_run}
use Rattle.set_matcher.proofs.lemmas.Slots.{nfa_by_slot, tokens_by_slot}
use Rattle.set_matcher.proofs.lemmas.Visits.{three_runs, two_runs}
use Rattle.set_matcher.proofs.automata.Automata.is_match.Goals as goal

pub returns-then-branch-clause-some : goal.returns-then-branch-clause-some
returns-then-branch-clause-some c = λ t are.
    let by_path = subst (λ (a : AutomataParts). IsFor a.by_path t.by_path) (sym c.self.view_is) are.path in
    let some = (has_matches c.self.inside.by_path t.by_path c.args.path.now by_path c.requires.bytes).0 (c.in_ok-matches_part.ensures.some.0 c.if-branch.true) in
    (λ yes. (some.0, inl some.1), λ found. refl)

pub returns-then-branch-2-clause-some : goal.returns-then-branch-2-clause-some
returns-then-branch-2-clause-some c = λ t are.
    let by_component = subst (λ (a : AutomataParts). IsFor a.by_component t.by_component) (sym c.self.view_is) are.component in
    let path = c.args.path.now in
    let some = (has_matches c.self.inside.by_component t.by_component (last_component path) by_component (component_bytes path c.requires.bytes)).0 (c.in_ok-matches_part-2.ensures.some.0 c.if-branch-2.true) in
    (λ yes. (some.0, inr (inl some.1)), λ found. refl)

pub returns-clause-some : goal.returns-clause-some
returns-clause-some c =
    let path = c.args.path.now in
    let bytes = c.requires.bytes in
    let automaton = nfa_at c.self.inside.extensions.nfas c.slot_of-slot.result in
    IfOk-weaker c.is_match.result (λ yes. IsTrue yes ↔ ((k : ℕ) × IsReached automaton (before_extension path) k))
    (λ yes. (t : TokenLists) → AreForLists c.args.self.now t → IsTrue yes ↔ ((k : ℕ) × AreFound c.args.self.now.extensions.slots t path k))
    (λ yes tells t are.
    let by_path = subst (λ (a : AutomataParts). IsFor a.by_path t.by_path) (sym c.self.view_is) are.path in
    let by_component = subst (λ (a : AutomataParts). IsFor a.by_component t.by_component) (sym c.self.view_is) are.component in
    let extension_tokens = tokens_under t.by_slot c.args.self.now.extensions.slots (component_extension path) in
    last_run
    (λ k some.
    let found = c.in_ok-matches_part.ensures.some.1 (k, (reached_matches c.self.inside.by_path t.by_path path k by_path bytes).1 some) in
    true≢false (sym found ∙ c.if-branch.false))
    (λ k some.
    let found = c.in_ok-matches_part-2.ensures.some.1 (k, (reached_matches c.self.inside.by_component t.by_component (last_component path) k by_component (component_bytes path bytes)).1 some) in
    true≢false (sym found ∙ c.if-branch-2.false))
    (iff_trans tells (has_matches automaton extension_tokens (before_extension path)
    (tokens_by_slot c.slot_of-slot.result (component_extension path) t.by_slot c.self.view_is c.slot_of-slot.ensures.held c.slot_of-slot.ensures.slot are.matchers) (before_bytes path bytes))))
    c.is_match.ensures.some

pub returns-in_err-matches_part-2-clause-visits : goal.returns-in_err-matches_part-2-clause-visits
returns-in_err-matches_part-2-clause-visits c =
    let a = c.args.self.now in
    let path = c.args.path.now in
    two_runs (length path) (length path) (length path) (max_reads a.by_path) (max_reads c.self.inside.by_path) (max_reads a.by_component)
    (max_reads (nfa_under a.extensions (component_extension path))) c.args.visits.now c.matches_part.new.visits c.matches_part-2.new.visits
    refl refl (ap (λ (p : AutomataParts). max_reads p.by_path) c.self.view_is) c.matches_part.ensures.visits (subst (λ (p : AutomataParts). c.matches_part-2.new.visits ≤ c.matches_part.new.visits + (length path + 1) * max_reads p.by_component) c.self.view_is c.matches_part-2.ensures.visits)

pub returns-then-branch-2-clause-visits : goal.returns-then-branch-2-clause-visits
returns-then-branch-2-clause-visits c =
    let a = c.args.self.now in
    let path = c.args.path.now in
    two_runs (length path) (length path) (length path) (max_reads a.by_path) (max_reads c.self.inside.by_path) (max_reads a.by_component)
    (max_reads (nfa_under a.extensions (component_extension path))) c.args.visits.now c.matches_part.new.visits c.matches_part-2.new.visits
    refl refl (ap (λ (p : AutomataParts). max_reads p.by_path) c.self.view_is) c.matches_part.ensures.visits (subst (λ (p : AutomataParts). c.matches_part-2.new.visits ≤ c.matches_part.new.visits + (length path + 1) * max_reads p.by_component) c.self.view_is c.matches_part-2.ensures.visits)

pub returns-clause-visits : goal.returns-clause-visits
returns-clause-visits c =
    let a = c.args.self.now in
    let path = c.args.path.now in
    three_runs (length path) (length path) (length path) (length path) (max_reads a.by_path) (max_reads c.self.inside.by_path) (max_reads a.by_component)
    (max_reads (nfa_under a.extensions (component_extension path))) (max_reads (nfa_at c.self.inside.extensions.nfas c.slot_of-slot.result)) c.args.visits.now c.matches_part.new.visits c.matches_part-2.new.visits
    c.slot_of-slot.new.visits c.is_match.new.visits
    refl refl refl (ap (λ (p : AutomataParts). max_reads p.by_path) c.self.view_is)
    (ap max_reads (nfa_by_slot (component_extension path) c.self.view_is c.slot_of-slot.ensures.slot))
    c.matches_part.ensures.visits (subst (λ (p : AutomataParts). c.matches_part-2.new.visits ≤ c.matches_part.new.visits + (length path + 1) * max_reads p.by_component) c.self.view_is c.matches_part-2.ensures.visits) c.slot_of-slot.ensures.visits c.is_match.ensures.visits
