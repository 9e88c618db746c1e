use Rattle.mp_graph.proofs.Walk.{Walk}
use Rattle.mp_graph.proofs.rewrite.rewritten.Given as goal

abbrev pub invariant-nodes : goal.invariant-nodes
invariant-nodes g l = Walk l.fn.graph l.graph l.own l.images (g.W.Rewrite.image l.fn.rewrite) l.id-index
