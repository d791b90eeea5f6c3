use Rattle.std.proofs.Common.{length, ap, arith}
use Rattle.glob_relations.proofs.lemmas.Leading.{leading_more, leading_all}
use Rattle.glob_relations.proofs.leading.leading.Goals as goal

pub loop-s-preserved : goal.loop-s-preserved
loop-s-preserved c =
    let leads = rw c.deref.ensures.value at c.leads_on-leads.ensures in
    leading_more c.args.automaton.now c.args.index c.loop-s.marks.items c.loop-s.s c.leads_on-leads.result c.loop-s.invariant leads c.push.new.self.items c.in_ok-push.ensures.items
