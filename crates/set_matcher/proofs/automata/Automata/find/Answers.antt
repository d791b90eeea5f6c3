use Rattle.std.proofs.Common.{◌≡◌, ◌+◌, ◌*◌, ◌≤◌, length, refl, ap, sym, subst, true≢false, arith, ◌∙◌}
use Rattle.glob_strategy.specs.IndexedTokens.{IsFor}
use Rattle.glob_strategy.proofs.lemmas.IndexedTokens.{reached_matches}
use Rattle.byte_nfa.specs.Runs.{size, max_reads}
use Rattle.byte_nfa.specs.Steps.{NfaValue}
use Rattle.std.proofs.Math.Logic.{⊎_elim}
use Rattle.glob_path.specs.PathParts.{last_component, component_extension}
use Rattle.set_matcher.specs.inner.Automata.{AutomataParts, before_extension, nfa_at, nfa_under, max_states, tokens_under}
use Rattle.set_matcher.proofs.lemmas.Automata.{before_bytes, by_tokens, component_bytes, no_matches, three_runs}
use Rattle.set_matcher.proofs.lemmas.Slots.{nfa_by_slot, tokens_by_slot}
use Rattle.set_matcher.proofs.lemmas.Visits.{looked_runs}
use Rattle.set_matcher.proofs.automata.Automata.find.Goals as goal

pub returns-then-is_idle-clause-idle : goal.returns-then-is_idle-clause-idle
returns-then-is_idle-clause-idle c = λ off.
    let path = c.args.path.now in
    let nil = c.is_idle.ensures.0 c.if-is_idle.true in
    let last = ap (λ o. size (nfa_at c.args.self.now.extensions.nfas o)) c.slot_of-slot.ensures.slot in
    let bytes = c.requires.bytes in record {
      size = omega (arith, nil, last);
      none = λ t are k found. ⊎_elim {C = ⊥} (λ by_path. no_matches c.args.self.now.by_path t.by_path path k (omega (arith, nil)) are.path bytes by_path)
          (λ later. ⊎_elim {C = ⊥}
          (λ by_component. no_matches c.args.self.now.by_component t.by_component (last_component path) k (omega (arith, nil)) are.component (component_bytes path bytes) by_component)
          (λ by_slot. no_matches (nfa_at c.args.self.now.extensions.nfas c.slot_of-slot.result) (tokens_under t.by_slot c.args.self.now.extensions.slots (component_extension path)) (before_extension path) k (omega (arith, nil))
          (tokens_by_slot {a = c.args.self.now} {b = c.args.self.now} c.slot_of-slot.result (component_extension path) t.by_slot refl c.slot_of-slot.ensures.held c.slot_of-slot.ensures.slot are.matchers)
          (before_bytes path bytes) by_slot) later) found;
    }

pub returns-clause-found : goal.returns-clause-found
returns-clause-found c = λ on. record {
  size =
      let last = ap (λ o. size (nfa_at c.args.self.now.extensions.nfas o)) c.slot_of-slot.ensures.slot in
      let some : (size c.args.self.now.by_path + (size c.args.self.now.by_component + size (nfa_at c.args.self.now.extensions.nfas c.slot_of-slot.result)) ≡ 0) → ⊥ = (λ nil. true≢false (sym (c.is_idle.ensures.1 nil) ∙ c.if-is_idle.false)) in
      omega (arith, last, some);
  room = omega (arith, c.in_ok-reserve.ensures.ok, c.index_count.ensures, c.in_ok-run.ensures.room, c.in_ok-run-2.ensures.room, c.in_ok-find.ensures.room);
  same = λ t are k.
      let extension_tokens = tokens_under t.by_slot c.args.self.now.extensions.slots (component_extension c.args.path.now) in
      let path = c.args.path.now in
      let bytes = c.requires.bytes in
      let path_for = subst (λ (a : AutomataParts). IsFor a.by_path t.by_path) (sym c.self.view_is) are.path in
      let one = by_tokens (reached_matches c.self.inside.by_path t.by_path path k path_for bytes) (c.in_ok-run.ensures.found k) in
      let component_for = subst (λ (a : AutomataParts). IsFor a.by_component t.by_component) (sym c.self.view_is) are.component in
      let two = by_tokens (reached_matches c.self.inside.by_component t.by_component (last_component path) k component_for (component_bytes path bytes)) (c.in_ok-run-2.ensures.found k) in
      let are_for = tokens_by_slot c.slot_of-slot.result (component_extension c.args.path.now) t.by_slot c.self.view_is c.slot_of-slot.ensures.held c.slot_of-slot.ensures.slot are.matchers in
      let three = by_tokens (reached_matches (nfa_at c.self.inside.extensions.nfas c.slot_of-slot.result) extension_tokens (before_extension path) k are_for (before_bytes path bytes)) (c.in_ok-find.ensures.found k) in
      let empty = c.in_ok-reserve.ensures.has k ∙ c.clear.ensures.none k in three_runs (λ h. true≢false (sym h ∙ empty)) one two three;
}

pub returns-in_err-run-clause-visits : goal.returns-in_err-run-clause-visits
returns-in_err-run-clause-visits c =
    let a = c.args.self.now in
    let n = length c.args.path.now in
    looked_runs n (max_reads a.by_path) (max_reads a.by_component) (max_reads (nfa_under a.extensions (component_extension c.args.path.now))) c.args.visits.now c.slot_of-slot.new.visits
    c.run.new.visits c.run.new.visits c.run.new.visits
    c.slot_of-slot.ensures.visits
    (subst (λ (p : AutomataParts). c.run.new.visits ≤ c.slot_of-slot.new.visits + (n + 1) * max_reads p.by_path) c.self.view_is c.run.ensures.visits)
    (omega arith) (omega arith)

pub returns-in_err-run-2-clause-visits : goal.returns-in_err-run-2-clause-visits
returns-in_err-run-2-clause-visits c =
    let a = c.args.self.now in
    let n = length c.args.path.now in
    looked_runs n (max_reads a.by_path) (max_reads a.by_component) (max_reads (nfa_under a.extensions (component_extension c.args.path.now))) c.args.visits.now c.slot_of-slot.new.visits
    c.run.new.visits c.run-2.new.visits c.run-2.new.visits
    c.slot_of-slot.ensures.visits
    (subst (λ (p : AutomataParts). c.run.new.visits ≤ c.slot_of-slot.new.visits + (n + 1) * max_reads p.by_path) c.self.view_is c.run.ensures.visits)
    (subst (λ (p : AutomataParts). c.run-2.new.visits ≤ c.run.new.visits + (n + 1) * max_reads p.by_component) c.self.view_is c.run-2.ensures.visits)
    (omega arith)

pub returns-in_err-find-clause-visits : goal.returns-in_err-find-clause-visits
returns-in_err-find-clause-visits c =
    let a = c.args.self.now in
    let n = length c.args.path.now in
    looked_runs n (max_reads a.by_path) (max_reads a.by_component) (max_reads (nfa_under a.extensions (component_extension c.args.path.now))) c.args.visits.now c.slot_of-slot.new.visits
    c.run.new.visits c.run-2.new.visits c.find.new.visits
    c.slot_of-slot.ensures.visits
    (subst (λ (p : AutomataParts). c.run.new.visits ≤ c.slot_of-slot.new.visits + (n + 1) * max_reads p.by_path) c.self.view_is c.run.ensures.visits)
    (subst (λ (p : AutomataParts). c.run-2.new.visits ≤ c.run.new.visits + (n + 1) * max_reads p.by_component) c.self.view_is c.run-2.ensures.visits)
    (subst (λ (m : NfaValue). c.find.new.visits ≤ c.run-2.new.visits + (n + 1) * max_reads m)
    (nfa_by_slot (component_extension c.args.path.now) c.self.view_is c.slot_of-slot.ensures.slot) c.find.ensures.visits)

pub returns-clause-visits : goal.returns-clause-visits
returns-clause-visits c =
    let a = c.args.self.now in
    let n = length c.args.path.now in
    looked_runs n (max_reads a.by_path) (max_reads a.by_component) (max_reads (nfa_under a.extensions (component_extension c.args.path.now))) c.args.visits.now c.slot_of-slot.new.visits
    c.run.new.visits c.run-2.new.visits c.find.new.visits
    c.slot_of-slot.ensures.visits
    (subst (λ (p : AutomataParts). c.run.new.visits ≤ c.slot_of-slot.new.visits + (n + 1) * max_reads p.by_path) c.self.view_is c.run.ensures.visits)
    (subst (λ (p : AutomataParts). c.run-2.new.visits ≤ c.run.new.visits + (n + 1) * max_reads p.by_component) c.self.view_is c.run-2.ensures.visits)
    (subst (λ (m : NfaValue). c.find.new.visits ≤ c.run-2.new.visits + (n + 1) * max_reads m)
    (nfa_by_slot (component_extension c.args.path.now) c.self.view_is c.slot_of-slot.ensures.slot) c.find.ensures.visits)

pub returns-in_err-reserve-clause-memory : goal.returns-in_err-reserve-clause-memory
returns-in_err-reserve-clause-memory c = λ none.
    let last = ap (λ o. size (nfa_at c.args.self.now.extensions.nfas o)) c.slot_of-slot.ensures.slot in
    let on = c.is_idle.ensures.1 (omega (arith, none, last)) in absurd (true≢false (sym on ∙ c.if-is_idle.false))

pub returns-in_err-run-clause-memory : goal.returns-in_err-run-clause-memory
returns-in_err-run-clause-memory c = λ none.
    let last = ap (λ o. size (nfa_at c.args.self.now.extensions.nfas o)) c.slot_of-slot.ensures.slot in
    let on = c.is_idle.ensures.1 (omega (arith, none, last)) in absurd (true≢false (sym on ∙ c.if-is_idle.false))

pub returns-in_err-run-2-clause-memory : goal.returns-in_err-run-2-clause-memory
returns-in_err-run-2-clause-memory c = λ none.
    let last = ap (λ o. size (nfa_at c.args.self.now.extensions.nfas o)) c.slot_of-slot.ensures.slot in
    let on = c.is_idle.ensures.1 (omega (arith, none, last)) in absurd (true≢false (sym on ∙ c.if-is_idle.false))

pub returns-in_err-find-clause-memory : goal.returns-in_err-find-clause-memory
returns-in_err-find-clause-memory c = λ none.
    let last = ap (λ o. size (nfa_at c.args.self.now.extensions.nfas o)) c.slot_of-slot.ensures.slot in
    let on = c.is_idle.ensures.1 (omega (arith, none, last)) in absurd (true≢false (sym on ∙ c.if-is_idle.false))

pub returns-in_err-reserve-clause-room : goal.returns-in_err-reserve-clause-room
returns-in_err-reserve-clause-room c = λ _ indexes.
    absurd (true≢false (sym (c.in_err-reserve.ensures.memory (omega (arith, indexes, c.index_count.ensures, c.clear.ensures.room)))))

pub returns-in_err-run-clause-room : goal.returns-in_err-run-clause-room
returns-in_err-run-clause-room c = λ has _.
    let states = subst (λ (p : AutomataParts). max_states p ≤ c.args.memory.now.room) (sym c.self.view_is) has in
    absurd (true≢false (sym (c.in_err-run.ensures.memory (omega (arith, states)))))

pub returns-in_err-run-2-clause-room : goal.returns-in_err-run-2-clause-room
returns-in_err-run-2-clause-room c = λ has _.
    let states = subst (λ (p : AutomataParts). max_states p ≤ c.args.memory.now.room) (sym c.self.view_is) has in
    absurd (true≢false (sym (c.in_err-run-2.ensures.memory (omega (arith, states, c.in_ok-run.ensures.kept.room)))))

pub returns-in_err-find-clause-room : goal.returns-in_err-find-clause-room
returns-in_err-find-clause-room c = λ has _.
    let states = subst (λ (p : AutomataParts). max_states p ≤ c.args.memory.now.room) (sym c.self.view_is) has in
    absurd (true≢false (sym (c.in_err-find.ensures.memory (omega (arith, states, c.in_ok-run.ensures.kept.room, c.in_ok-run-2.ensures.kept.room)))))
