use Rattle.std.proofs.Common.{◌∙◌, ap}
use Rattle.std.specs.Prelude.{map}
use Rattle.std.proofs.lemmas.List.{take_all}
use Rattle.std.proofs.lemmas.Simd.{map-map}
use Rattle.git_ignore.specs.Rules.{rules_of}
use Rattle.git_ignore.specs.declared.entry.RuleEntry.{RuleEntry}
use Rattle.git_ignore.specs.inner.Entries.{entry_of}
use Rattle.git_ignore.proofs.reading.rule_patterns.Goals as goal

pub returns-clause-lines : goal.returns-clause-lines
returns-clause-lines c =
    let line = λ (e : RuleEntry). e.line in
    c.loop-entry.invariant ∙ ap (map line) (take_all _ _ c.loop-entry-test.false ∙ c.deref-entry-items.ensures.value ∙ c.in_ok-read.ensures.rules.same_entries) ∙ map-map line entry_of (rules_of c.args.file.now)
