use Rattle.mp_graph.proofs.Fallen.{own_reversed}
use Rattle.mp_graph.proofs.graph.Graph.own_nodes.Goals as goal

pub returns : goal.returns
returns c = own_reversed c.args.self.now.terms c.args.root c.in_ok-ids.ids.items c.reverse.new.self.items c.reverse.ensures.items c.in_ok-ids.ensures
