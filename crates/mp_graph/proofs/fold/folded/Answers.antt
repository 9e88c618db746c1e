use Rattle.mp_graph.proofs.Walk.{item_is}
use Rattle.mp_graph.proofs.Rows.{rows_before}
use Rattle.mp_graph.proofs.fold.folded.Goals as goal

pub row-requires-clause-rows : goal.row-requires-clause-rows
row-requires-clause-rows g c =
    rows_before c.args.graph.now.terms c.args.root c.args.own.now (g.F.Fold.is_row c.args.fold.now) c.nodes.rows c.nodes.id-index c.requires.own c.nodes.invariant
    c.id-item.result (item_is c.args.own.now c.nodes.id-index c.id-item.result c.nodes-test.true c.id-item.is) c.unique.ensures c.requires.within c.nodes-test.true
