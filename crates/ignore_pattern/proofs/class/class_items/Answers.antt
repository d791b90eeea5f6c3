use Rattle.std.proofs.Common.{zero, true, None, ◌==◌, sym, ap, ◌∙◌, arith}
use Rattle.std.specs.List.{position}
use Rattle.ignore_pattern.specs.Classes.{class_items}
use Rattle.bit_sets.proofs.lemmas.Cuts.{head_cell}
use Rattle.ignore_pattern.proofs.lemmas.Classes.{ends, closed, unreadable, goes_on}
use Rattle.ignore_pattern.proofs.class.class_items.Goals as goal

pub returns-then-closes-clause-value : goal.returns-then-closes-clause-value
returns-then-closes-clause-value c =
    let l = c.loop-rest in
    let t = class_items zero true None c.args.cs.now in
    closed c.args.cs.now l.items.items l.first l.last l.rest.now t l.invariant.reads _ _ (head_cell l.rest.now 0 c.in-len1-up.len_at_least) (sym c.if-closes.ensures)

pub returns-in-None-clause-value : goal.returns-in-None-clause-value
returns-in-None-clause-value c =
    let l = c.loop-rest in
    let t = class_items zero true None c.args.cs.now in
    unreadable c.args.cs.now l.items.items l.first l.last l.rest.now t l.invariant.reads _ _ (head_cell l.rest.now 0 c.in-len1-up.len_at_least) (sym c.if-closes.ensures) c.in-None.ensures.value

pub loop-rest-preserved : goal.loop-rest-preserved
loop-rest-preserved c =
    let l = c.loop-rest in
    let t = class_items zero true None c.args.cs.now in
    record {
      reads = goes_on c.args.cs.now l.items.items l.first l.last l.rest.now t l.invariant.reads _ _ (head_cell l.rest.now 0 c.in-len1-up.len_at_least)
          c.in-Some.found c.push.new.self.items c.split_at.result.1.now (sym c.if-closes.ensures) c.in-Some.ensures.value c.in-Some.ensures.within c.in_ok-push-in-Some.ensures.items c.split_at.ensures.back;
      closer = c.closer_after-closer-in-Some.ensures ∙ ap (position (λ d. d == 93)) (sym c.split_at.ensures.back);
    }

pub returns-clause-value : goal.returns-clause-value
returns-clause-value c =
    let l = c.loop-rest in
    ends c.args.cs.now l.items.items l.first l.last l.rest.now (class_items zero true None c.args.cs.now) l.invariant.reads (omega arith)
