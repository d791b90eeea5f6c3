use Rattle.std.proofs.Common.{ap, refl, length, length-append, arith}
use Rattle.glob_path.proofs.lemmas.Spans.{long_rest, split_whole, own_held}
use Rattle.glob_path.proofs.tree.Tree.push_node.Goals as goal

pub push_edges-requires-clause-long : goal.push_edges-requires-clause-long
push_edges-requires-clause-long c =
    long_rest c.args.texts.now c.end_of_run-own.result c.in_ok-after.after c.in_ok-after.ensures.3.ordered c.end_of_run-own.ensures.low c.end_of_run-own.ensures.stop

pub returns : goal.returns
returns c =
    let ts = c.args.texts.now in
    let r = c.in_ok-after.ensures in
    let after = c.in_ok-after.after in
    let own = c.end_of_run-own in
    let e = c.in_ok-push_edges.ensures in
    let long = long_rest ts own.result after r.3.ordered own.ensures.low own.ensures.stop in
    record {
      run = r.0;
      after = after;
      bytes = e.0;
      spans = e.1;
      node = record { run = c.len-run.result; run_end = c.len.result; edges = c.len-edges.result; edges_end = c.len-2.result; indexes = after.from; indexes_end = own.result };
      new_runs = r.1;
      new_bytes = e.2;
      new_nodes = c.in_ok-push.ensures.items;
      new_indexes = refl;
      new_spans = e.3;
      run_start = omega (arith, c.len-run.ensures);
      run_end = omega (arith, c.len.ensures, ap length r.1, length-append c.args.self.now.runs.items r.0);
      edges = omega (arith, c.len-edges.ensures);
      edges_end = omega (arith, c.len-2.ensures, ap length e.2, length-append c.args.self.now.bytes.items e.0);
      indexes = own.ensures.low;
      indexes_end = omega (arith, own.ensures.high, r.3.to);
      shared = r.2;
      held = own_held ts own.result after own.ensures.low own.ensures.high own.ensures.run long;
      split = split_whole ts c.args.least own.result after e.0 e.1 own.ensures.low own.ensures.high own.ensures.run r.3.late e.4;
    }
