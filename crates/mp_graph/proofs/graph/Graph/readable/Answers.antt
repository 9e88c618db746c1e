use Rattle.std.proofs.Common.{◌≡◌, ℕ, ◌<◌, length, subst}
use Rattle.mp_semantics.specs.Term.{Leaf, leaf}
use Rattle.mp_graph.specs.Shared.{Shared, term_at}
use Rattle.mp_graph.specs.Readable.{IsNamedLeaf}
use Rattle.mp_graph.proofs.Readable.{nodes_readable}
use Rattle.mp_graph.proofs.graph.Graph.readable.Goals as goal

pub returns : goal.returns
returns c =
    subst (λ (g : Shared). (i : ℕ) (l : Leaf) → i < length g.terms → term_at g.terms i ≡ leaf l → IsNamedLeaf g.names l) c.self.view_is
    (nodes_readable c.self.inside.names c.self.inside.nodes.keys c.self.invariant)
