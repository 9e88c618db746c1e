use Rattle.std.proofs.Common.{subst}
use Rattle.mp_graph.specs.Shared.{Shared, IsEachOnce}
use Rattle.mp_graph.proofs.Same.{each_once}
use Rattle.mp_graph.proofs.graph.Graph.unique.Goals as goal

pub returns : goal.returns
returns c = subst (λ (g : Shared). IsEachOnce g.terms) c.self.view_is (each_once c.self.inside.names c.self.inside.nodes.keys c.self.invariant c.len.ensures.unique)
