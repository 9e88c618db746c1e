use Rattle.std.proofs.Common.{ap, ◌∙◌, sym, length}
use Rattle.mp_graph.specs.Shared.{Shared}
use Rattle.mp_graph.proofs.Nodes.{length-terms_of}
use Rattle.mp_graph.proofs.graph.Graph.nodes.Goals as goal

pub returns : goal.returns
returns c = c.len.ensures.len ∙ sym (length-terms_of _) ∙ ap (λ (g : Shared). length g.terms) c.self.view_is
