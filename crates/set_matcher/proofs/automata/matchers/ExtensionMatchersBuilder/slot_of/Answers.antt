use Rattle.std.proofs.Common.{◌≡◌, ◌∷◌, ◌++◌, [], None, length, ap, sym, subst, arith, ◌∙◌, ℕ, List}
use Rattle.glob_strategy.specs.IndexedTokens.{IndexedTokens}
use Rattle.byte_nfa.specs.Runs.{max_reads}
use Rattle.byte_nfa.specs.Steps.{NfaValue}
use Rattle.glob_path.specs.Entries.{Entry, entry}
use Rattle.set_matcher.specs.inner.Automata.{ExtensionParts, AreFor, AreExtensionMatchers, KeepsTokens, nfa_under, slot_of, total_reads}
use Rattle.set_matcher.proofs.lemmas.Tables.{first_of_key}
use Rattle.set_matcher.proofs.lemmas.ExtensionMatchers.{extension_parts, matchers_cleared, matchers_push, matchers_insert, slot_keeps, slot_reads, total_push}
use Rattle.set_matcher.proofs.automata.matchers.ExtensionMatchersBuilder.slot_of.Goals as goal

pub invariant_of-self-in_err-insert : goal.invariant_of-self-in_err-insert
invariant_of-self-in_err-insert c =
    let nfas = c.self.inside.builders.items in
    let more = matchers_push c.self.inside.slots nfas c.self.inside.index_count c.new_builder.result c.new_builder.ensures.index_count c.self.invariant in
    subst (λ es. AreExtensionMatchers es c.push.new.self.items c.self.inside.index_count) (sym {A = List Entry} c.in_err-insert.ensures.err)
    (matchers_cleared c.self.inside.slots _ c.self.inside.index_count
    (subst (λ ms. AreExtensionMatchers c.self.inside.slots ms c.self.inside.index_count) (sym {A = List NfaValue} c.in_ok-push.ensures.items) more))

pub invariant_of-self-2 : goal.invariant_of-self-2
invariant_of-self-2 c =
    let nfas = c.self.inside.builders.items in
    let at : c.len-slot.result ≡ length nfas = omega (arith, c.len-slot.ensures, c.self.inside.builders.ok.0) in
    let more = matchers_insert c.self.inside.slots nfas c.self.inside.index_count c.new_builder.result c.args.key.items c.len-slot.result c.new_builder.ensures.index_count at c.self.invariant in
    subst (λ es. AreExtensionMatchers es c.push.new.self.items c.self.inside.index_count) (sym c.in_ok-insert.ensures.ok)
    (subst (λ ms. AreExtensionMatchers (c.self.inside.slots ++ entry c.args.key.items c.len-slot.result ∷ []) ms c.self.inside.index_count) (sym c.in_ok-push.ensures.items) more)

pub returns-clause-slot : goal.returns-clause-slot
returns-clause-slot c =
    let none : slot_of c.self.inside.slots c.args.key.items ≡ None = ap (slot_of c.self.inside.slots) (sym c.deref.ensures.value) ∙ sym c.get.ensures ∙ c.in_default.is in
    ap (λ es. slot_of es c.args.key.items) c.in_ok-insert.ensures.ok ∙ first_of_key c.self.inside.slots c.args.key.items c.len-slot.result none

pub returns-clause-tokens : goal.returns-clause-tokens
returns-clause-tokens c =
    let old = extension_parts c.self.inside.slots c.self.inside.builders.items c.self.inside.index_count in
    let new = extension_parts c.insert.new.self c.push.new.self.items c.self.inside.index_count in
    let at : c.len-slot.result ≡ length c.self.inside.builders.items = omega (arith, c.len-slot.ensures, c.self.inside.builders.ok.0) in
    subst (λ (e : ExtensionParts). (before : ℕ → List IndexedTokens) → AreFor e.nfas before → KeepsTokens e before new) c.self.view_is
    (slot_keeps old new c.args.key.items c.len-slot.result c.new_builder.result at c.self.invariant c.new_builder.ensures.tokens c.in_ok-insert.ensures.ok c.in_ok-push.ensures.items)

pub returns-clause-reads : goal.returns-clause-reads
returns-clause-reads c =
    let old = extension_parts c.self.inside.slots c.self.inside.builders.items c.self.inside.index_count in
    let new = extension_parts c.insert.new.self c.push.new.self.items c.self.inside.index_count in
    let at : c.len-slot.result ≡ length c.self.inside.builders.items = omega (arith, c.len-slot.ensures, c.self.inside.builders.ok.0) in
    subst (λ (e : ExtensionParts). (extension : List ℕ) → max_reads (nfa_under new extension) ≡ max_reads (nfa_under e extension)) c.self.view_is
    (slot_reads old new c.args.key.items c.len-slot.result c.new_builder.result at c.self.invariant c.new_builder.ensures.reads c.in_ok-insert.ensures.ok c.in_ok-push.ensures.items)

pub returns-clause-total : goal.returns-clause-total
returns-clause-total c =
    ap total_reads c.in_ok-push.ensures.items ∙ total_push c.self.inside.builders.items c.new_builder.result c.new_builder.ensures.reads ∙ ap (λ (e : ExtensionParts). total_reads e.nfas) c.self.view_is

pub invariant_of-self : goal.invariant_of-self
invariant_of-self c =
    subst (λ ms. AreExtensionMatchers c.self.inside.slots ms c.self.inside.index_count) (sym {A = List NfaValue} c.in_err-push.ensures.items) c.self.invariant

pub returns-in_err-push-clause-count : goal.returns-in_err-push-clause-count
returns-in_err-push-clause-count c = ap (λ (e : ExtensionParts). e.index_count) c.self.view_is

pub returns-in_err-insert-clause-count : goal.returns-in_err-insert-clause-count
returns-in_err-insert-clause-count c = ap (λ (e : ExtensionParts). e.index_count) c.self.view_is

pub returns-clause-count : goal.returns-clause-count
returns-clause-count c = ap (λ (e : ExtensionParts). e.index_count) c.self.view_is
