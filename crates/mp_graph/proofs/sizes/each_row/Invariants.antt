use Rattle.std.proofs.Common.{take}
use Rattle.std.specs.List.{AllZip}
use Rattle.mp_graph.proofs.sizes.each_row.Given as goal

abbrev pub invariant-nodes : goal.invariant-nodes
invariant-nodes g l = AllZip (g.F.Fold.is_row l.fold) (take l.index l.graph.terms) l.rows.items
