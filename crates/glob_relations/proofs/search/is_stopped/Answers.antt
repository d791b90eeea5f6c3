use Rattle.std.proofs.Common.{◌≡◌, ℕ, [], true≢false, refl, sym, arith}
use Rattle.std.specs.Prelude.{◌↔◌, IsTrue}
use Rattle.bit_sets.specs.Indexes.{has_index}
use Rattle.glob_relations.specs.inner.Rows.{AcceptsIn, first_rule}
use Rattle.glob_relations.proofs.lemmas.Closed.{closed_iff}
use Rattle.glob_relations.proofs.search.is_stopped.Goals as goal

pub returns-in-Some-clause-stopped : goal.returns-in-Some-clause-stopped
returns-in-Some-clause-stopped c =
    let has : ℕ → Type 0 = λ k. IsTrue (has_index c.ends_of.new.ends k) in
    let reached : ℕ → Type 0 = AcceptsIn c.args.automaton.now c.args.row.now.states.items [] in
    let same : (k : ℕ) → has k ↔ reached k = rw c.deref.ensures.value at c.ends_of.ensures.ends in
    let by = rw c.in-Some.is at c.ignoring_rule.ensures in
    let here = rw c.deref-2.ensures.value at by in
    let slash : c.args.byte ≡ 47 = omega (arith, c.if-byte-ne47.false) in
    (λ yes. (slash, closed_iff c.args.question.now.ignores.items first_rule has reached same (c.in-Some.field-0, here)), λ stopped. refl)

pub returns-in-None-clause-stopped : goal.returns-in-None-clause-stopped
returns-in-None-clause-stopped c =
    let has : ℕ → Type 0 = λ k. IsTrue (has_index c.ends_of.new.ends k) in
    let reached : ℕ → Type 0 = AcceptsIn c.args.automaton.now c.args.row.now.states.items [] in
    let same : (k : ℕ) → has k ↔ reached k = rw c.deref.ensures.value at c.ends_of.ensures.ends in
    let none = rw c.in-None.is at c.ignoring_rule.ensures in
    let off = rw c.deref-2.ensures.value at none in
    (λ yes. absurd (true≢false (sym yes)), λ (is, closed). absurd (off (closed_iff c.args.question.now.ignores.items first_rule reached has (λ k. ((same k).1, (same k).0)) closed)))
