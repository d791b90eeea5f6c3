-- What rules tell about a path in one pass. No contract of the crate's public calls cites this.
use Rattle.std.specs.Prelude.{◌≡◌, ℕ, Bool, true, false, ◌||◌, List, ◌∷◌, ◌++◌, Option, None}
use Rattle.std.specs.Option.{option_or}
use Rattle.git_ignore.specs.TwoRules.{ignoring}
use Rattle.git_ignore.specs.declared.decision.DecidingRule.{DecidingRule}
use Rattle.git_ignore.specs.declared.path_rule.PathRule.{PathRule}

-- there is no answer about a folder above the path: about bytes that a `/` follows in it
abbrev pub NoneAbove : (List ℕ → Option DecidingRule) → List ℕ → Type 0
NoneAbove about path = (folder rest : List ℕ) → path ≡ folder ++ 47 ∷ rest → about folder ≡ None

-- This is what the rules that decide about paths alone, `alone`, tell about a path: the rule that decides about it, and whether no
-- folder above it is ignored, or has a rule that decides. They may tell neither of such folders.
pub record IsPathRule (alone : List ℕ → Bool → Option DecidingRule) (path : List ℕ) (is_folder : Bool) (r : PathRule) : Type 0 where
  pub rule : r.rule ≡ alone path is_folder
  pub not_ignored : r.may_be_ignored ≡ false → NoneAbove (λ folder. ignoring (alone folder true)) path
  pub undecided : (r.may_be_ignored || r.may_be_kept) ≡ false → NoneAbove (λ folder. alone folder true) path

-- no rule, and none about a folder above the path
abbrev pub without_rule : PathRule
without_rule = record { rule = None; may_be_ignored = false; may_be_kept = false }

-- what rules and later ones tell together; the later ones take precedence
abbrev pub joined : PathRule → PathRule → PathRule
joined first later = record {
  rule = option_or later.rule first.rule;
  may_be_ignored = first.may_be_ignored || later.may_be_ignored;
  may_be_kept = first.may_be_kept || later.may_be_kept;
}
