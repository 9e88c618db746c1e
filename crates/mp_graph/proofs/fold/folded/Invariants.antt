use Rattle.mp_graph.proofs.Rows.{Rows}
use Rattle.mp_graph.proofs.fold.folded.Given as goal

abbrev pub invariant-nodes : goal.invariant-nodes
invariant-nodes g l = Rows l.graph.terms l.own (g.F.Fold.is_row l.fold) l.rows l.id-index
