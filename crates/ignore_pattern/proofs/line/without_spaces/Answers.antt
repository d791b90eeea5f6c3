use Rattle.ignore_pattern.specs.Lines.{without_spaces}
use Rattle.bit_sets.proofs.lemmas.Cuts.{head_cell}
use Rattle.ignore_pattern.proofs.lemmas.Lines.{starts, space_step, other_step}
use Rattle.ignore_pattern.proofs.line.without_spaces.Goals as goal

pub loop-rest-init : goal.loop-rest-init
loop-rest-init c = starts c.args.line.now

pub loop-rest-preserved-then-byte-ne32 : goal.loop-rest-preserved-then-byte-ne32
loop-rest-preserved-then-byte-ne32 c =
    let l = c.loop-rest in
    other_step c.args.line.now l.kept l.rest.now (without_spaces c.args.line.now) l.invariant _ _ _ (head_cell l.rest.now 0 c.in-len1-up.len_at_least) c.after_byte-rest.ensures.value c.if-byte-ne32.true

pub loop-rest-preserved : goal.loop-rest-preserved
loop-rest-preserved c =
    let l = c.loop-rest in
    space_step c.args.line.now l.kept l.rest.now (without_spaces c.args.line.now) l.invariant _ _ _ (head_cell l.rest.now 0 c.in-len1-up.len_at_least) c.after_byte-rest.ensures.value c.if-byte-ne32.false
