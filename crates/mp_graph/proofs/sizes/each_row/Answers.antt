use Rattle.std.proofs.Common.{arith}
use Rattle.mp_graph.proofs.AllRows.{zip_count, zip_rows, zip_more}
use Rattle.mp_graph.proofs.sizes.each_row.Goals as goal

pub row-requires-clause-table : goal.row-requires-clause-table
row-requires-clause-table g c =
    let count = zip_count (g.F.Fold.is_row c.args.fold.now) c.args.graph.now.terms c.nodes.rows.items c.nodes.index c.nodes.invariant (omega arith) in
    omega (arith, count)

pub row-requires-clause-rows : goal.row-requires-clause-rows
row-requires-clause-rows g c =
    rw c.deref.ensures.value (zip_rows (g.F.Fold.is_row c.args.fold.now) c.args.graph.now.terms c.nodes.rows.items c.nodes.index c.nodes.invariant c.of.result c.of.ensures)

pub nodes-preserved : goal.nodes-preserved
nodes-preserved g c =
    rw c.in-Ok-push.ensures.items (zip_more (g.F.Fold.is_row c.args.fold.now) c.args.graph.now.terms c.nodes.rows.items c.nodes.index c.nodes.invariant c.of.result c.in-Ok.row c.of.ensures (omega arith) c.in-Ok.ensures.row)
