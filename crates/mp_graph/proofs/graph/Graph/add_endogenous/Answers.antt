use Rattle.std.proofs.Common.{sym, subst}
use Rattle.mp_values.specs.Names.{Names}
use Rattle.mp_graph.specs.Nodes.{IsSound}
use Rattle.mp_graph.proofs.Readable.{sound_still}
use Rattle.mp_graph.proofs.graph.Graph.add_endogenous.Goals as goal

pub invariant_of-self : goal.invariant_of-self
invariant_of-self c = subst (λ (n : Names). IsSound n c.self.inside.nodes.keys) (sym c.in_err-add_another.ensures.err) c.self.invariant

pub invariant_of-self-2 : goal.invariant_of-self-2
invariant_of-self-2 c =
    subst (λ (n : Names). IsSound n c.self.inside.nodes.keys) (sym c.in_ok-add_another.ensures.names) (sound_still c.self.inside.names c.args.name.now c.self.inside.nodes.keys c.self.invariant)
