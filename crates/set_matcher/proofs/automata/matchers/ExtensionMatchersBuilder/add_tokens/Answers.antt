use Rattle.std.proofs.Common.{◌≡◌, ◌≤◌, ◌+◌, Some, get_or, refl, set, ap, sym, subst, arith, ◌∙◌}
use Rattle.std.proofs.lemmas.Result.{on_ok_weaker}
use Rattle.glob_syntax.specs.Views.{tokens_of}
use Rattle.glob_syntax.specs.inner.Weight.{weight}
use Rattle.byte_nfa.specs.Runs.{max_reads}
use Rattle.byte_nfa.specs.Steps.{NfaValue}
use Rattle.glob_path.specs.Entries.{indexes_under}
use Rattle.glob_strategy.specs.IndexedTokens.{IsFor, indexed}
use Rattle.set_matcher.specs.inner.Automata.{ExtensionParts, KeepsTokens, nfa_under, slot_of, total_reads}
use Rattle.set_matcher.proofs.lemmas.Tables.{first_in}
use Rattle.set_matcher.proofs.lemmas.ExtensionMatchers.{extension_parts, matchers_set, slot_adds, slot_reads_added, total_set}
use Rattle.set_matcher.proofs.automata.matchers.ExtensionMatchersBuilder.add_tokens.Goals as goal

pub index_mut-requires : goal.index_mut-requires
index_mut-requires c =
    let slot = c.in_ok-slot.slot in
    let at : slot_of c.self.inside.slots c.args.key.items ≡ Some slot = ap (λ (e : ExtensionParts). slot_of e.slots c.args.key.items) c.self.view_is ∙ c.in_ok-slot.ensures.slot in
    let lt = c.self.invariant.held c.args.key.items slot (first_in (indexes_under c.self.inside.slots c.args.key.items) slot at) in
    omega (arith, lt, c.self.inside.builders.ok.0)

pub add_tokens-requires-clause-index : goal.add_tokens-requires-clause-index
add_tokens-requires-clause-index c =
    let slot = c.in_ok-slot.slot in
    let at : slot_of c.self.inside.slots c.args.key.items ≡ Some slot = ap (λ (e : ExtensionParts). slot_of e.slots c.args.key.items) c.self.view_is ∙ c.in_ok-slot.ensures.slot in
    let lt = c.self.invariant.held c.args.key.items slot (first_in (indexes_under c.self.inside.slots c.args.key.items) slot at) in
    let count : c.index_mut.result.now.index_count ≡ c.self.inside.index_count =
    ap (λ (m : NfaValue). m.index_count) c.index_mut.ensures.value ∙ c.self.invariant.counted slot c.index_mut.result.now lt in
    omega (arith, count, ap (λ (e : ExtensionParts). e.index_count) c.self.view_is, c.in_ok-slot.ensures.count, c.requires.index)

pub invariant_of-self : goal.invariant_of-self
invariant_of-self c =
    let slot = c.in_ok-slot.slot in
    let at : slot_of c.self.inside.slots c.args.key.items ≡ Some slot = ap (λ (e : ExtensionParts). slot_of e.slots c.args.key.items) c.self.view_is ∙ c.in_ok-slot.ensures.slot in
    let lt = c.self.invariant.held c.args.key.items slot (first_in (indexes_under c.self.inside.slots c.args.key.items) slot at) in
    let count : c.index_mut.result.now.index_count ≡ c.self.inside.index_count =
    ap (λ (m : NfaValue). m.index_count) c.index_mut.ensures.value ∙ c.self.invariant.counted slot c.index_mut.result.now lt in
    matchers_set c.self.inside.slots c.self.inside.builders.items c.self.inside.index_count slot c.add_tokens.new.builder lt (c.add_tokens.ensures.index_count ∙ count) c.self.invariant

pub returns-clause-tokens : goal.returns-clause-tokens
returns-clause-tokens c =
    let slot = c.in_ok-slot.slot in
    let nfas = c.self.inside.builders.items in
    let mid = extension_parts c.self.inside.slots nfas c.self.inside.index_count in
    let new = extension_parts c.self.inside.slots (set nfas slot c.add_tokens.new.builder) c.self.inside.index_count in
    let at : slot_of c.self.inside.slots c.args.key.items ≡ Some slot = ap (λ (e : ExtensionParts). slot_of e.slots c.args.key.items) c.self.view_is ∙ c.in_ok-slot.ensures.slot in
    let lt = c.self.invariant.held c.args.key.items slot (first_in (indexes_under c.self.inside.slots c.args.key.items) slot at) in
    on_ok_weaker c.add_tokens.result
    (λ adds before are.
    slot_adds c.args.self.now mid new c.args.key.items slot (indexed c.args.options (tokens_of c.args.tokens.now) c.args.index) c.index_mut.result.now c.add_tokens.new.builder c.self.invariant at lt refl refl
    (λ xs is. adds xs (subst (λ (m : NfaValue). IsFor m xs) (sym c.index_mut.ensures.value) is)) before
    (subst (λ (e : ExtensionParts). KeepsTokens c.args.self.now before e) (sym c.self.view_is) (c.in_ok-slot.ensures.tokens before are)))
    c.add_tokens.ensures.tokens

pub returns-clause-reads : goal.returns-clause-reads
returns-clause-reads c =
    let slot = c.in_ok-slot.slot in
    let nfas = c.self.inside.builders.items in
    let more = weight c.args.options (tokens_of c.args.tokens.now) + 4 in
    let mid = extension_parts c.self.inside.slots nfas c.self.inside.index_count in
    let new = extension_parts c.self.inside.slots (set nfas slot c.add_tokens.new.builder) c.self.inside.index_count in
    let at : slot_of c.self.inside.slots c.args.key.items ≡ Some slot = ap (λ (e : ExtensionParts). slot_of e.slots c.args.key.items) c.self.view_is ∙ c.in_ok-slot.ensures.slot in
    let lt = c.self.invariant.held c.args.key.items slot (first_in (indexes_under c.self.inside.slots c.args.key.items) slot at) in
    on_ok_weaker c.add_tokens.result
    (λ few extension.
    let kept : max_reads (nfa_under mid extension) ≡ max_reads (nfa_under c.args.self.now extension) =
    ap (λ (e : ExtensionParts). max_reads (nfa_under e extension)) c.self.view_is ∙ c.in_ok-slot.ensures.reads extension in
    let value = ap max_reads c.index_mut.ensures.value in
    let within : max_reads c.add_tokens.new.builder ≤ max_reads (get_or nfas slot c.index_mut.result.now) + more = omega (arith, few, value) in
    let added = slot_reads_added mid new c.args.key.items slot more c.index_mut.result.now c.add_tokens.new.builder c.self.invariant at lt refl refl within extension in omega (arith, kept, added))
    c.add_tokens.ensures.reads

pub returns-clause-total : goal.returns-clause-total
returns-clause-total c =
    let slot = c.in_ok-slot.slot in
    let nfas = c.self.inside.builders.items in
    let more = weight c.args.options (tokens_of c.args.tokens.now) + 4 in
    let at : slot_of c.self.inside.slots c.args.key.items ≡ Some slot = ap (λ (e : ExtensionParts). slot_of e.slots c.args.key.items) c.self.view_is ∙ c.in_ok-slot.ensures.slot in
    let lt = c.self.invariant.held c.args.key.items slot (first_in (indexes_under c.self.inside.slots c.args.key.items) slot at) in
    let kept = ap (λ (e : ExtensionParts). total_reads e.nfas) c.self.view_is in
    let value = ap max_reads c.index_mut.ensures.value in
    on_ok_weaker c.add_tokens.result
    (λ few.
    let within : max_reads c.add_tokens.new.builder ≤ max_reads (get_or nfas slot c.index_mut.result.now) + more = omega (arith, few, value) in
    let added = total_set nfas slot more c.index_mut.result.now c.add_tokens.new.builder lt within in omega (arith, kept, c.in_ok-slot.ensures.total, added))
    c.add_tokens.ensures.reads
