use Rattle.std.proofs.Common.{IsTrue, subst, sym, ap, ◌∙◌}
use Rattle.std.specs.Prelude.{◌↔◌}
use Rattle.std.proofs.lemmas.Bool.Decides.{Decides-eqb}
use Rattle.std.proofs.lemmas.Slice.Eq.{slice_eq-Decides}
use Rattle.glob_path.specs.declared.key.Key.{Key}
use Rattle.glob_path.specs.Key.{KeyMatches, key_seen}
use Rattle.glob_path.specs.PathParts.{component_extension, last_component}
use Rattle.glob_path.proofs.key.Key.matches.Goals as goal

pub returns-in-Literal : goal.returns-in-Literal
returns-in-Literal c =
    subst (λ (k : Key). IsTrue c.eq.result ↔ KeyMatches (key_seen k) c.args.path.now) (sym c.in-Literal.is)
    (rw (← c.path.ensures, ← c.as_slice.ensures.value) (slice_eq-Decides Decides-eqb c.path.result.now c.as_slice.result.now _ c.eq.ensures))

pub returns-in-BasenameLiteral : goal.returns-in-BasenameLiteral
returns-in-BasenameLiteral c =
    subst (λ (k : Key). IsTrue c.eq-in-BasenameLiteral.result ↔ KeyMatches (key_seen k) c.args.path.now) (sym c.in-BasenameLiteral.is)
    (rw (← (c.last_component.ensures ∙ ap last_component c.path-in-BasenameLiteral.ensures), ← c.as_slice-in-BasenameLiteral.ensures.value) (slice_eq-Decides Decides-eqb c.last_component.result.now c.as_slice-in-BasenameLiteral.result.now _ c.eq-in-BasenameLiteral.ensures))

pub returns-in-Extension : goal.returns-in-Extension
returns-in-Extension c =
    subst (λ (k : Key). IsTrue c.eq-in-Extension.result ↔ KeyMatches (key_seen k) c.args.path.now) (sym c.in-Extension.is)
    (rw (← (c.component_extension.ensures ∙ ap component_extension c.path-in-Extension.ensures), ← c.as_slice-in-Extension.ensures.value) (slice_eq-Decides Decides-eqb c.component_extension.result.now c.as_slice-in-Extension.result.now _ c.eq-in-Extension.ensures))

pub returns-in-ComponentSuffix : goal.returns-in-ComponentSuffix
returns-in-ComponentSuffix c =
    subst (λ (k : Key). IsTrue c.has_component_suffix.result ↔ KeyMatches (key_seen k) c.args.path.now) (sym c.in-ComponentSuffix.is)
    (rw (← c.path-in-ComponentSuffix.ensures, ← c.deref.ensures.value) c.has_component_suffix.ensures)

pub returns-in-Suffix : goal.returns-in-Suffix
returns-in-Suffix c =
    subst (λ (k : Key). IsTrue c.has_suffix.result ↔ KeyMatches (key_seen k) c.args.path.now) (sym c.in-Suffix.is)
    (rw (← c.path-in-Suffix.ensures, ← c.deref-in-Suffix.ensures.value) c.has_suffix.ensures)

pub returns-in-Prefix : goal.returns-in-Prefix
returns-in-Prefix c =
    subst (λ (k : Key). IsTrue c.has_prefix.result ↔ KeyMatches (key_seen k) c.args.path.now) (sym c.in-Prefix.is)
    (rw (← c.path-in-Prefix.ensures, ← c.deref-in-Prefix.ensures.value) c.has_prefix.ensures)
