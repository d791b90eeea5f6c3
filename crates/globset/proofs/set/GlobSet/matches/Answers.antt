use Rattle.std.proofs.Common.{ℕ, List, Vec, ap, ◌∙◌}
use Rattle.std.specs.Global.{Global}
use Rattle.set_matcher.specs.Answer.{matching_indexes}
use Rattle.set_matcher.specs.SetValue.{SetValue}
use Rattle.globset.specs.SetValue.{set_globs}
use Rattle.globset.proofs.lemmas.Answer.{answer_of_none}
use Rattle.globset.proofs.set.GlobSet.matches.Goals as goal
use Rattle.globset.proofs.set.GlobSet.matches.Goals.{in-Some+in_ok-find, in_default}

pub returns-clause-ok : goal.returns-clause-ok
returns-clause-ok g c = elim c.match-matcher.branch [
  | in-Some+in_ok-find w ↦
      ap (λ (v : Vec ℕ Global). v.items) w.indexes-is ∙ w.in_ok-find.ensures.ok
      ∙ ap (λ (set : SetValue). matching_indexes (set_globs set) w.new.result) w.in-Some.ensures.set
      ∙ ap (λ (path : List ℕ). matching_indexes (set_globs c.args.self.now) path) (w.new.ensures ∙ w.path_text.ensures)
  | in_default w ↦
      ap (λ (v : Vec ℕ Global). v.items) w.indexes-is ∙ c.new-indexes.ensures.items
      ∙ answer_of_none (set_globs c.args.self.now) (g.P.AsPath.text c.args.path) (c.matcher.ensures.none w.in_default.is)
]
