use Rattle.std.proofs.Common.{◌≡◌, subst, sym, ◌∙◌}
use Rattle.mp_graph.proofs.Nodes.{zip_same}
use Rattle.mp_values.specs.Names.{Names}
use Rattle.mp_graph.specs.Nodes.{IsSound}
use Rattle.mp_graph.proofs.graph.Graph.copy.Goals as goal

same : (c : goal.In-Ok) → c.in-Ok.nodes.keys ≡ c.self.inside.nodes.keys
same c = zip_same c.self.inside.nodes.keys c.in-Ok.nodes.keys c.in-Ok.ensures.cases

pub invariant_of-result : goal.invariant_of-result
invariant_of-result c =
    subst (λ (n : Names). IsSound n c.in-Ok.nodes.keys) (sym c.in_ok-names.ensures) (subst (λ l. IsSound c.self.inside.names l) (sym (same c)) c.self.invariant)

pub returns-in-Ok : goal.returns-in-Ok
returns-in-Ok c = (let e = c.in_ok-names.ensures in let f = same c in cc (e, f)) ∙ c.self.view_is
