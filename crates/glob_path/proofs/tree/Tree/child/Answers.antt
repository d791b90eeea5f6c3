use Rattle.std.proofs.Common.{Ok, Err, sym, subst}
use Rattle.std.specs.Prelude.{slice_range}
use Rattle.std.specs.Ordering.{nat_cmp}
use Rattle.std.specs.List.Sorted.{IsBinarySearchResult, IsStrictlyIncreasing}
use Rattle.std.proofs.lemmas.List.{get_or_read}
use Rattle.glob_path.proofs.lemmas.Children.{child_found, child_none}
use Rattle.glob_path.proofs.tree.Tree.child.Goals as goal

pub returns-in-Ok-clause-child : goal.returns-in-Ok-clause-child
returns-in-Ok-clause-child c =
    let t = c.args.self.now in
    let n = c.index-node.result.now in
    let e = get_or_read t.nodes.items c.args.node _ c.requires.node c.index-node.ensures (record { run = 0; run_end = 0; edges = 0; edges_end = 0; indexes = 0; indexes_end = 0 }) in
    child_found t.nodes.items t.bytes.items c.args.node c.args.byte c.in-Ok.i n e
    (subst (λ m. IsStrictlyIncreasing (slice_range t.bytes.items m.edges m.edges_end)) (sym e) (c.requires.tree.nodes c.args.node c.requires.node).rising)
    (subst (λ l. IsBinarySearchResult (λ y. nat_cmp y c.args.byte) (slice_range l n.edges n.edges_end) (Ok c.in-Ok.i)) c.deref.ensures.value c.in-Ok.ensures.position)

pub returns-in-Err-clause-child : goal.returns-in-Err-clause-child
returns-in-Err-clause-child c =
    let t = c.args.self.now in
    let n = c.index-node.result.now in
    let e = get_or_read t.nodes.items c.args.node _ c.requires.node c.index-node.ensures (record { run = 0; run_end = 0; edges = 0; edges_end = 0; indexes = 0; indexes_end = 0 }) in
    child_none t.nodes.items t.bytes.items c.args.node c.args.byte _ n e
    (subst (λ m. IsStrictlyIncreasing (slice_range t.bytes.items m.edges m.edges_end)) (sym e) (c.requires.tree.nodes c.args.node c.requires.node).rising)
    (subst (λ l. IsBinarySearchResult (λ y. nat_cmp y c.args.byte) (slice_range l n.edges n.edges_end) (Err c.in-Err.field-0)) c.deref.ensures.value c.in-Err.ensures.position)
