use Rattle.std.proofs.Common.{◌≡◌, ◌∙◌, ℕ, ◌+◌, ◌<◌, length, ap, arith, subst, sym}
use Rattle.std.proofs.lemmas.List.{length-map}
use Rattle.bit_sets.proofs.lemmas.Texts.{all_bytes}
use Rattle.bit_sets.specs.Indexes.{has_index}
use Rattle.git_ignore.specs.Rules.{Rule, deciding_rule, patterns_of, rules_of}
use Rattle.git_ignore.specs.inner.Entries.{StoredValue, rules_value}
use Rattle.git_ignore.specs.declared.path_rule.PathRule.{PathRule}
use Rattle.git_ignore.specs.inner.PathRules.{IsPathRule}
use Rattle.git_ignore.proofs.lemmas.Entries.{decided_by, entry_count, found_is_last, found_matches, from_ok, pattern_count}
use Rattle.git_ignore.proofs.lemmas.PathRules.{run_tells}
use Rattle.git_ignore.proofs.stored.StoredRules.path_rule.Goals as goal

pub find-requires-clause-count : goal.find-requires-clause-count
find-requires-clause-count c =
    let r = c.self.inside in
    let rules = ap (λ (v : StoredValue). v.rules) c.self.view_is in
    omega (arith, entry_count r.ignore_case (rules_of r.file.items) r.automaton r.entries.items c.self.invariant, rules, c.requires.indexes, c.clear.ensures.room)

pub returns-clause-rule : goal.returns-clause-rule
returns-clause-rule c =
    let r = c.self.inside in
    let rules = rules_of r.file.items in
    let path = c.args.path.now in
    let states = ap (λ (v : StoredValue). (rules_value v).states) c.self.view_is in
    let adds = from_ok c.find.result (c.find.ensures.memory (omega (arith, states, c.requires.states))) c.find.ensures.reached in
    let bytes = all_bytes path (λ i. (c.type_inv.path i).fits) in
    let count = pattern_count r.ignore_case rules r.automaton r.entries.items c.self.invariant in
    let matched = found_matches r.ignore_case (patterns_of rules) r.automaton path c.clear.new.self c.find.new.found c.self.invariant.finds_patterns bytes c.clear.ensures.none adds in
    let matched' = λ (k : ℕ) (low : k < length rules). matched k (let same = length-map rules (λ (rule : Rule). rule.pattern) in omega (arith, low, same)) in
    let decided = c.told_of.ensures
    ∙ decided_by r.ignore_case r.file.items path c.args.file c.args.is_folder c.last_entry_for-last.result
    (found_is_last r.ignore_case path c.args.is_folder (has_index c.find.new.found) rules r.entries.items c.deref.result.now c.last_entry_for-last.result c.self.invariant.same_entries c.deref.ensures.value matched'
    c.last_entry_for-last.ensures) in
    let entries : c.len-count.result ≡ length r.entries.items = omega (arith, c.len-count.ensures, r.entries.ok.0) in
    let result : PathRule = record { rule = c.told_of.result; may_be_ignored = c.has.result; may_be_kept = c.has-2.result } in
    subst (λ (v : StoredValue). IsPathRule (deciding_rule v.ignore_case v.file c.args.file) path c.args.is_folder result) c.self.view_is
    (run_tells r.ignore_case r.file.items path c.args.file (length r.entries.items) c.args.is_folder r.automaton c.clear.new.self c.find.new.found result c.self.invariant.finds_patterns bytes adds count decided
    (c.has.ensures ∙ ap (has_index c.find.new.found) entries) (c.has-2.ensures ∙ ap (λ (k : ℕ). has_index c.find.new.found (k + 1)) entries))
