-- Whether a set's answer has every index.
use Rattle.std.proofs.Common.{◌≡◌, ℕ, List, Bool, true, false, true≢false, IsTrue, sym, ◌∙◌, length}
use Rattle.std.specs.Prelude.{◌↔◌}
use Rattle.globset.specs.Answer.{matching_indexes}
use Rattle.globset.specs.Indexes.{ContainsAllBelow}
use Rattle.globset.specs.SetValue.{SetValue, set_globs}
use Rattle.c_objects.specs.Answers.{IsAll}

pub is_all : (s : SetValue) (path : List ℕ) (b : Bool) → IsTrue b ↔ ContainsAllBelow (matching_indexes (set_globs s) path) (length (set_globs s)) → b ≡ true → IsAll s path
unfolding IsAll
is_all s path b f q = f.0 q

pub not_all : (s : SetValue) (path : List ℕ) (b : Bool) → IsTrue b ↔ ContainsAllBelow (matching_indexes (set_globs s) path) (length (set_globs s)) → b ≡ false → ¬ (IsAll s path)
unfolding IsAll
not_all s path b f q all = true≢false (sym (f.1 all) ∙ q)
