use Rattle.std.proofs.Common.{◌≡◌, Some, None, ap, sym, arith, ◌∙◌}
use Rattle.std.specs.Prelude.{length, slice_index_or}
use Rattle.glob_path.specs.Entries.{indexes_under}
use Rattle.set_matcher.specs.inner.Automata.{ExtensionParts, first, slot_of}
use Rattle.set_matcher.proofs.lemmas.Tables.{first_in, first_none, first_some}
use Rattle.set_matcher.proofs.automata.matchers.ExtensionMatchers.slot_of.Goals as goal

pub returns-in-len1-up-clause-slot : goal.returns-in-len1-up-clause-slot
returns-in-len1-up-clause-slot c =
    let slot = slice_index_or c.get.result.now 0 0 in
    let at : slot_of c.self.inside.slots c.args.extension.now ≡ Some slot = ap first (sym c.get.ensures.indexes) ∙ first_some c.get.result.now 0 c.in-len1-up.len_at_least in
    sym at ∙ ap (λ (e : ExtensionParts). slot_of e.slots c.args.extension.now) c.self.view_is

pub returns-in-len1-up-clause-held : goal.returns-in-len1-up-clause-held
returns-in-len1-up-clause-held c = λ s is.
    let slot = slice_index_or c.get.result.now 0 0 in
    let at : slot_of c.self.inside.slots c.args.extension.now ≡ Some slot = ap first (sym c.get.ensures.indexes) ∙ first_some c.get.result.now 0 c.in-len1-up.len_at_least in
    let lt = c.self.invariant.held c.args.extension.now s (first_in (indexes_under c.self.inside.slots c.args.extension.now) s (at ∙ is)) in
    omega (arith, lt, ap (λ (e : ExtensionParts). length e.nfas) c.self.view_is)

pub returns-in-empty-clause-slot : goal.returns-in-empty-clause-slot
returns-in-empty-clause-slot c =
    let none : slot_of c.self.inside.slots c.args.extension.now ≡ None = ap first (sym c.get.ensures.indexes) ∙ first_none c.get.result.now c.in-empty.len_below in
    sym none ∙ ap (λ (e : ExtensionParts). slot_of e.slots c.args.extension.now) c.self.view_is
