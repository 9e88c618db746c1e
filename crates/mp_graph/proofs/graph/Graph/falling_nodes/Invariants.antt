use Rattle.mp_graph.proofs.Fallen.{Falling, top}
use Rattle.mp_graph.proofs.graph.Graph.falling_nodes.Given as goal

abbrev pub invariant-turns : goal.invariant-turns
invariant-turns l = Falling l.self.terms l.fn.root l.pending.keys l.ids.items

abbrev pub decreases-turns : goal.decreases-turns
decreases-turns l = top l.pending.keys
