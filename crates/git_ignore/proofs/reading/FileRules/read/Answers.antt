use Rattle.std.proofs.Common.{List, ℕ, ap, arith, subst, ◌∙◌}
use Rattle.std.proofs.lemmas.Grind.{common_steps}
use Rattle.std.proofs.lemmas.List.{length-drop, length-take, take_all}
use Rattle.ignore_pattern.specs.Lines.{lines_of}
use Rattle.git_ignore.specs.Rules.{rules_from, rules_of, unread_from, unread_lines_of}
use Rattle.git_ignore.specs.inner.Entries.{ArePartsOf}
use Rattle.git_ignore.proofs.lemmas.Lines.{last_read, last_unread, next_read, next_unread}
use Rattle.git_ignore.proofs.reading.FileRules.read.Goals as goal

pub loop-end-preserved : goal.loop-end-preserved
loop-end-preserved c = record {
  rules = next_read _ _ _ _ _ c.loop-end.number c.in-Some.end c.loop-end.rest.now _ _ c.loop-end.invariant.rules c.in-Some.ensures (grind (arith, common_steps)) (take_all _ _ (simp length-drop (omega arith))) c.in_ok-push_line.ensures.rules;
  unread = next_unread _ _ _ c.loop-end.number c.in-Some.end c.loop-end.rest.now _ _ c.loop-end.invariant.unread c.in-Some.ensures (grind (arith, common_steps)) (take_all _ _ (simp length-drop (omega arith))) c.in_ok-push_line.ensures.unread;
  number = omega (arith, length-drop {A = ℕ}, length-take {A = ℕ}, c.loop-end.invariant.number, c.in-Some.ensures.0.high);
}

pub returns-clause-rules : goal.returns-clause-rules
unfolding rules_of
returns-clause-rules c =
    subst (λ (bytes : List ℕ). ArePartsOf (rules_from 1 (lines_of bytes)) c.push_line-2.new.self.patterns.items c.push_line-2.new.self.entries.items) c.after_mark-rest.ensures
    (last_read _ _ _ _ _ c.loop-end.number c.loop-end.rest.now c.loop-end.invariant.rules c.in_default.ensures c.in_ok-push_line-2.ensures.rules)

pub returns-clause-unread : goal.returns-clause-unread
unfolding unread_lines_of
returns-clause-unread c =
    last_unread _ _ _ c.loop-end.number c.loop-end.rest.now c.loop-end.invariant.unread c.in_default.ensures c.in_ok-push_line-2.ensures.unread
    ∙ ap (λ (bytes : List ℕ). unread_from 1 (lines_of bytes)) c.after_mark-rest.ensures
