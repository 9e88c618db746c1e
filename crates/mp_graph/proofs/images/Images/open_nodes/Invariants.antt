use Rattle.mp_graph.proofs.Fallen.{top}
use Rattle.mp_graph.proofs.Open.{Opening}
use Rattle.mp_graph.proofs.images.Images.open_nodes.Given as goal

abbrev pub invariant-turns : goal.invariant-turns
invariant-turns l = Opening l.graph.terms l.self.known.items l.fn.root l.pending.keys l.ids.items

abbrev pub decreases-turns : goal.decreases-turns
decreases-turns l = top l.pending.keys
