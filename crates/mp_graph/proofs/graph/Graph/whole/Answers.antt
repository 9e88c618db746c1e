use Rattle.std.proofs.Common.{subst}
use Rattle.mp_graph.specs.Shared.{Shared}
use Rattle.mp_graph.specs.Part.{HasParts}
use Rattle.mp_graph.proofs.Parts.{has_parts}
use Rattle.mp_graph.proofs.graph.Graph.whole.Goals as goal

pub returns : goal.returns
returns c = subst (λ (g : Shared). HasParts g.terms) c.self.view_is (has_parts c.self.inside.names c.self.inside.nodes.keys c.self.invariant)
