use Rattle.std.proofs.Common.{arith, true≢false, sym, ◌∙◌}
use Rattle.glob_relations.proofs.lemmas.Rows.{origin_low, done_more, found_shortest, nothing_wanted, more_rows}
use Rattle.glob_relations.proofs.lemmas.Walks.{kept_within}
use Rattle.glob_relations.proofs.search.ask.Goals as goal

pub returns-then-len-limit : goal.returns-then-len-limit
returns-then-len-limit c = more_rows c.args.automaton.now c.args.question.now c.loop-next.rows c.args.limit c.loop-next.invariant.rows (omega arith) c.len.ensures.different

pub is_row_wanted-requires-clause-states : goal.is_row_wanted-requires-clause-states
is_row_wanted-requires-clause-states c = c.loop-next.invariant.rows.below c.loop-next.next c.row.result.now c.row.ensures

pub path_to-requires-clause-rows : goal.path_to-requires-clause-rows
path_to-requires-clause-rows c = origin_low c.args.automaton.now c.args.question.now c.loop-next.rows c.loop-next.invariant.rows

pub returns-then-is_row_wanted : goal.returns-then-is_row_wanted
returns-then-is_row_wanted c =
    let m = c.args.automaton.now in
    let n = c.args.question.now in
    let inv = c.loop-next.invariant in
    let leads = c.in_ok-path.ensures.path m n c.row.result.now inv.rows c.row.ensures (c.is_row_wanted.ensures.wanted.0 c.if-is_row_wanted.true) in
    found_shortest m n c.loop-next.rows inv.rows c.loop-next.next c.row.result.now c.in_ok-path.path.items inv.done c.row.ensures (c.in_ok-path.ensures.bytes, leads) c.in_ok-path.ensures.length

pub expand-requires-clause-before : goal.expand-requires-clause-before
expand-requires-clause-before c = λ i origin pos at. let low = c.loop-next.invariant.before i origin pos at in omega arith

pub expand-requires-clause-bytes : goal.expand-requires-clause-bytes
expand-requires-clause-bytes c = rw c.deref.ensures.value c.in_ok-bytes.ensures

pub loop-next-preserved : goal.loop-next-preserved
loop-next-preserved c =
    let m = c.args.automaton.now in
    let n = c.args.question.now in
    let inv = c.loop-next.invariant in
    let did = c.in_ok-expand.ensures in
    let lt = kept_within c.loop-next.rows c.expand.new.rows c.loop-next.next did.kept (omega arith) in
    record {
      room = did.room;
      rows = did.rows;
      before = did.before;
      within = omega (arith, lt);
      done = done_more m n c.loop-next.rows c.expand.new.rows c.loop-next.next c.row.result.now did.kept (omega arith) inv.done did.followed c.row.ensures
          (λ wants. true≢false (sym (c.is_row_wanted.ensures.wanted.1 wants) ∙ c.if-is_row_wanted.false));
    }

pub returns : goal.returns
returns c = nothing_wanted c.args.automaton.now c.args.question.now c.loop-next.rows c.loop-next.next c.loop-next.invariant.rows c.loop-next.invariant.done (omega arith)
