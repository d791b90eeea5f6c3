use Rattle.std.proofs.Common.{[], inl, inr, IsTrue, refl, ap, sym, subst, ◌∙◌, true≢false, arith}
use Rattle.std.specs.Prelude.{◌↔◌}
use Rattle.std.proofs.lemmas.Result.{IfOk-weaker}
use Rattle.glob_strategy.proofs.lemmas.IndexedTokens.{after_matches, start_bytes}
use Rattle.bit_sets.proofs.lemmas.Booleans.{iff_trans}
use Rattle.glob_path.specs.Below.{folder_start}
use Rattle.set_matcher.specs.inner.Automata.{AutomataParts, AreForLists, AreFoundBelow, SomeLeadsAfter, TokenLists, total_reads}
use Rattle.set_matcher.proofs.lemmas.Below.{last_of_three, max_within, slots_after}
use Rattle.set_matcher.proofs.automata.Automata.can_match_below.Goals as goal

pub returns-then-self-clause-some : goal.returns-then-self-clause-some
returns-then-self-clause-some c = λ t are.
    let inside = subst (λ (a : AutomataParts). AreForLists a t) (sym c.self.view_is) are in
    (λ yes. inl ((after_matches c.self.inside.by_component t.by_component [] inside.component tt).0 (c.self.invariant.component.0 c.if-self.true)), λ found. refl)

pub returns-then-branch-clause-some : goal.returns-then-branch-clause-some
returns-then-branch-clause-some c = λ t are.
    let inside = subst (λ (a : AutomataParts). AreForLists a t) (sym c.self.view_is) are in
    let start = folder_start c.args.folder.now in
    let bytes = start_bytes c.args.folder.now (λ i. omega (arith, c.type_inv.folder i)) in
    (λ yes. inr (inl ((after_matches c.self.inside.by_path t.by_path start inside.path bytes).0 (c.in_ok-can_match_after.ensures.some.0 c.if-branch.true))), λ found. refl)

pub returns-clause-some : goal.returns-clause-some
returns-clause-some c =
    let folder = c.args.folder.now in
    let bytes = start_bytes folder (λ i. omega (arith, c.type_inv.folder i)) in
    IfOk-weaker c.can_match_after-2.result
    (λ yes. IsTrue yes ↔ SomeLeadsAfter c.self.inside.extensions.nfas (folder_start folder))
    (λ yes. (t : TokenLists) → AreForLists c.args.self.now t → IsTrue yes ↔ AreFoundBelow c.args.self.now.extensions t folder)
    (λ yes tells t are.
    let inside = subst (λ (a : AutomataParts). AreForLists a t) (sym c.self.view_is) are in
    subst (λ (a : AutomataParts). IsTrue yes ↔ AreFoundBelow a.extensions t folder) c.self.view_is
    (last_of_three
    (λ found. true≢false (sym (c.self.invariant.component.1 ((after_matches c.self.inside.by_component t.by_component [] inside.component tt).1 found)) ∙ c.if-self.false))
    (λ found. true≢false (sym (c.in_ok-can_match_after.ensures.some.1 ((after_matches c.self.inside.by_path t.by_path (folder_start folder) inside.path bytes).1 found)) ∙ c.if-branch.false))
    (iff_trans tells (slots_after c.self.inside.extensions.nfas t.by_slot (folder_start folder) inside.matchers bytes))))
    c.can_match_after-2.ensures.some

pub returns-clause-memory : goal.returns-clause-memory
returns-clause-memory c = λ none.
    let reads = ap (λ (a : AutomataParts). total_reads a.extensions.nfas) c.self.view_is in
    let few = max_within c.self.inside.extensions.nfas in
    c.can_match_after-2.ensures.room (omega (arith, none, reads, few))
