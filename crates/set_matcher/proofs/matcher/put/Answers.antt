use Rattle.std.proofs.Common.{◌≡◌, refl, ap, sym, subst, ◌∙◌}
use Rattle.std.proofs.lemmas.Result.{on_ok_weaker}
use Rattle.glob_path.specs.Key.{key_seen}
use Rattle.glob_syntax.specs.Views.{tokens_of}
use Rattle.glob_strategy.specs.IndexedTokens.{indexed}
use Rattle.set_matcher.specs.declared.automata.Target.TheVariants.{LastComponent, Extension}
use Rattle.set_matcher.specs.inner.Automata.{automata_or_none}
use Rattle.set_matcher.specs.inner.Builders.{AddsTo}
use Rattle.set_matcher.specs.inner.TokenGlobs.{is_reported, token_glob}
use Rattle.set_matcher.specs.inner.SetMatcher.{set_matcher_parts}
use Rattle.set_matcher.proofs.lemmas.LiteralIndex.{finds_key}
use Rattle.set_matcher.proofs.lemmas.More.{below_key}
use Rattle.set_matcher.proofs.lemmas.NoAutomata.{kept_is}
use Rattle.set_matcher.proofs.lemmas.SetMatcher.{as_listed, key_added, excluded_added, by_path_added, by_component_added, by_extension_added}
use Rattle.set_matcher.proofs.matcher.put.Goals as goal
use Rattle.set_matcher.proofs.matcher.put.Goals.{in-RequiredExtension, in-BasenameRegex, in-Regex, in-Some, in-None+in_ok-builder-in-None}

pub returns-in-Excluded-clause-matcher : goal.returns-in-Excluded-clause-matcher
returns-in-Excluded-clause-matcher c = λ globs at before.
    let is = rw c.in-Excluded.is at c.in_ok-strategy_of.ensures in
    excluded_added globs (token_glob c.args.options (tokens_of c.args.tokens.now)) c.args.index (set_matcher_parts c.args.keys.now (automata_or_none c.args.count c.args.automata.now)) at is.tells is.below before

pub returns-in-Key-clause-matcher : goal.returns-in-Key-clause-matcher
returns-in-Key-clause-matcher c =
    let is = rw c.in-Key.is at c.in_ok-strategy_of.ensures in
    let g = token_glob c.args.options (tokens_of c.args.tokens.now) in
    let key = key_seen c.in-Key.key in
    on_ok_weaker c.add.result
    (λ added globs at before. key_added globs g c.args.index c.args.keys.now c.add.new.self (automata_or_none c.args.count c.args.automata.now) at
    (λ path. finds_key c.args.keys.now c.add.new.self key c.args.index added path (is_reported g path) (is.tells path))
    (λ folder bytes. as_listed (below_key c.args.keys.now c.add.new.self key c.args.index added folder) (is.below folder bytes)) before)
    c.add.ensures

pub returns-clause-matcher : goal.returns-clause-matcher
returns-clause-matcher c =
    let g = token_glob c.args.options (tokens_of c.args.tokens.now) in
    let n = c.args.index in
    let new = c.add-2.new.self in
    let old = automata_or_none c.args.count c.args.automata.now in
    let builder : c.deref_mut.result.now ≡ old = elim c.match-take.branch [
      | in-Some w ↦ c.deref_mut.ensures.value ∙ ap (λ b. b.value) w.builder-is ∙ sym (kept_is c.args.count (sym c.take.ensures.value ∙ w.in-Some.is) refl)
      | in-None+in_ok-builder-in-None w ↦ c.deref_mut.ensures.value ∙ ap (λ b. b.value) w.builder-is ∙ w.in_ok-builder-in-None.ensures.ok ∙ w.new.ensures
          ∙ sym (ap (λ a. automata_or_none c.args.count a) (sym c.take.ensures.value ∙ w.in-None.is))
    ] in
    let adds = subst (λ a. AddsTo c.match-branch-2.target.0 a new (indexed g.options (tokens_of c.match-branch-2.target.1.now) n)) builder c.in_ok-add.ensures.added in
    λ globs at before. elim c.match-branch-2.branch [
      | in-RequiredExtension w ↦
          let is = rw w.in-RequiredExtension.is at c.in_ok-strategy_of.ensures in
          let key = w.in-RequiredExtension.extension in
          by_extension_added globs g n at c.args.keys.now old before key.items new
          (subst (λ ts. AddsTo (Extension key) old new (indexed g.options ts n)) w.tokens_before_ending.ensures.tokens
          (subst (λ p. AddsTo p.0 old new (indexed g.options (tokens_of p.1.now) n)) w.target-is adds))
          is.tells is.automaton (is.indirect refl) is.below
      | in-BasenameRegex w ↦
          let is = rw w.in-BasenameRegex.is at c.in_ok-strategy_of.ensures in
          by_component_added globs g n at c.args.keys.now old before new
          (subst (λ ts. AddsTo LastComponent old new (indexed g.options ts n)) w.tokens_after_prefix.ensures.tokens
          (subst (λ p. AddsTo p.0 old new (indexed g.options (tokens_of p.1.now) n)) w.target-is adds))
          is.tells (λ path. is.automaton path refl) is.below
      | in-Regex w ↦
          let is = rw w.in-Regex.is at c.in_ok-strategy_of.ensures in
          by_path_added globs g n at c.args.keys.now old before new
          (subst (λ p. AddsTo p.0 old new (indexed g.options (tokens_of p.1.now) n)) w.target-is adds)
          is.tells (λ path. is.automaton path refl) (is.indirect refl) is.below
    ]
