use Rattle.std.proofs.Common.{IsTrue, subst, sym}
use Rattle.std.specs.Prelude.{◌↔◌}
use Rattle.glob_path.specs.declared.key.Key.{Key}
use Rattle.glob_path.specs.Key.{KeyMayMatchBelow, key_seen}
use Rattle.glob_path.proofs.key.Key.can_match_below.Goals as goal

pub returns-in-Literal : goal.returns-in-Literal
returns-in-Literal c =
    subst (λ (k : Key). IsTrue c.is_below.result ↔ KeyMayMatchBelow (key_seen k) c.args.folder.now) (sym c.in-Literal.is)
    (rw (← c.deref.ensures.value) c.is_below.ensures)

pub returns-in-Prefix : goal.returns-in-Prefix
returns-in-Prefix c =
    subst (λ (k : Key). IsTrue c.may_have_prefix.result ↔ KeyMayMatchBelow (key_seen k) c.args.folder.now) (sym c.in-Prefix.is)
    (rw (← c.deref-in-Prefix.ensures.value) c.may_have_prefix.ensures)
