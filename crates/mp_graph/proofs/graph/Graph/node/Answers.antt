use Rattle.std.proofs.Common.{◌≡◌, ℕ, ◌<◌, List, ap, sym, subst, length, get_or, slice_get, Some, arith}
use Rattle.std.specs.List.{AllByRecursion}
use Rattle.mp_graph.specs.declared.graph.Node.{Node}
use Rattle.mp_values.specs.Names.{Names}
use Rattle.mp_graph.specs.Nodes.{terms_of, FitsAt, IsSound}
use Rattle.mp_graph.specs.Op.{over, IsLawful}
use Rattle.mp_graph.specs.Shared.{Shared, term_at}
use Rattle.mp_graph.proofs.Nodes.{length-terms_of, node_term, kid_below}
use Rattle.mp_graph.proofs.graph.Graph.node.Goals as goal

pub index-node-requires : goal.index-node-requires
index-node-requires c = omega (arith, c.index.ensures, length-terms_of c.self.inside.nodes.keys, ap (λ (g : Shared). length g.terms) c.self.view_is)

at : (g : Shared) (names : Names) (ns : List Node) (i j : ℕ) (x : Node) (kids : List ℕ) → IsSound names ns → record { names = names; terms = terms_of ns } ≡ g → slice_get ns i ≡ Some x → i ≡ j → kids ≡ x.kids
    → term_at g.terms j ≡ over g.terms x.op kids
at g names ns i j x kids o v s e k =
    subst (λ (g : Shared). term_at g.terms j ≡ over g.terms x.op kids) v (subst (λ ks. term_at (terms_of ns) j ≡ over (terms_of ns) x.op ks) (sym k) (subst (λ n. term_at (terms_of ns) n ≡ over (terms_of ns) x.op x.kids) e (node_term names ns o i x s)))

below : (names : Names) (i j : ℕ) (x : Node) (kids : List ℕ) → FitsAt names i x → i ≡ j → kids ≡ x.kids → (n : ℕ) → n < length kids → get_or kids n 0 < j
below names i j x kids f e k n l = kid_below j kids n (subst (λ ks. AllByRecursion (λ (n : ℕ). n < j) ks) (sym k) (subst (λ m. AllByRecursion (λ (n : ℕ). n < m) x.kids) e f.below)) l

pub returns-clause-term : goal.returns-clause-term
returns-clause-term c =
    at c.args.self.now c.self.inside.names c.self.inside.nodes.keys c.index.result c.args.id c.index-node.result.now c.as_slice.result.now
    c.self.invariant c.self.view_is c.index-node.ensures c.index.ensures c.as_slice.ensures

pub returns-clause-below : goal.returns-clause-below
returns-clause-below c =
    below c.self.inside.names c.index.result c.args.id c.index-node.result.now c.as_slice.result.now
    (c.self.invariant c.index.result c.index-node.result.now c.index-node.ensures) c.index.ensures c.as_slice.ensures

pub returns-clause-lawful : goal.returns-clause-lawful
returns-clause-lawful c =
    subst (λ (g : Shared). IsLawful g.names c.index-node.result.now.op) c.self.view_is (c.self.invariant c.index.result c.index-node.result.now c.index-node.ensures).lawful
