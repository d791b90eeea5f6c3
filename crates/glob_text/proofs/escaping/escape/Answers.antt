use Rattle.std.proofs.Common.{encode_utf8_all, ◌∙◌, ap, sym, map-id, append-nil}
use Rattle.std.proofs.lemmas.Grind.{flat_map-append}
use Rattle.std.proofs.lemmas.Iterator.{YieldsList-from_chars}
use Rattle.std.proofs.lemmas.Iterator.Consumers.{YieldsList-end}
use Rattle.std.proofs.lemmas.Str.{encodes-append}
use Rattle.glob_text.specs.Escape.{escaped_chars}
use Rattle.glob_text.proofs.lemmas.EscapeMeaning.{means_only_by_default, means_only_plain}
use Rattle.glob_text.proofs.escaping.escape.Goals as goal

pub loop-c-preserved : goal.loop-c-preserved
loop-c-preserved c = rw (flat_map-append, append-nil, encodes-append, ← c.loop-c.invariant) c.in_ok-push_escaped.ensures

pub returns-clause-text : goal.returns-clause-text
returns-clause-text c =
    let done = YieldsList-end (YieldsList-from_chars c.args.text.now c.utf8.text cc) c.loop-c.yielded _ c.loop-c.yielded_by _ _ c.in-None.is c.next.ensures.steps in
    c.loop-c.invariant ∙ ap (λ cs. encode_utf8_all (escaped_chars cs)) (sym (map-id c.loop-c.yielded) ∙ done.0)

pub returns-clause-escape_default : goal.returns-clause-escape_default
returns-clause-escape_default c = means_only_by_default c.args.text.now _ c.utf8.text (returns-clause-text c)

pub returns-clause-escape_plain : goal.returns-clause-escape_plain
returns-clause-escape_plain c = means_only_plain c.args.text.now _ c.utf8.text (returns-clause-text c)
