-- Names that are added leave nodes as they are, and each leaf reads a name.
use Rattle.std.proofs.Common.{◌≡◌, ℕ, cond, ◌+◌, ◌-◌, ◌<◌, ◌≤◌, List, [], ◌∷◌, ◌++◌, length, sym, ◌∙◌, ap, subst, arith}
use borrow.Author.Tests.{ne_eqb}
use Rattle.std.proofs.lemmas.List.{length-append}
use Rattle.mp_semantics.specs.Term as term
use Rattle.mp_semantics.specs.Term.{Term, endogenous, leaf}
use Rattle.mp_expr.specs.Shown.{place_of}
use Rattle.mp_expr.specs.declared.tree.VarId.TheVariants.{Endo, Exo}
use Rattle.mp_graph.specs.declared.op.LeafOp.{LeafOp}
use Rattle.mp_graph.specs.declared.op.LeafOp.TheVariants.{Num, Param, Var, Anchor}
use Rattle.mp_graph.specs.declared.op.NodeOp.{NodeOp}
use Rattle.mp_graph.specs.declared.op.NodeOp.TheVariants.{Leaf, Neg, Binary, Pow, Pick}
use Rattle.mp_graph.specs.declared.graph.Node.{Node}
use Rattle.mp_statements.specs.declared.kind.NameKind.TheVariants.{Endogenous}
use Rattle.mp_values.specs.Names.{Names}
use Rattle.mp_names.specs.Named.{with_name}
use Rattle.mp_graph.specs.Op.{IsLawfulLeaf, IsLawful, leaf_of, over}
use Rattle.mp_graph.specs.Nodes.{IsSound, terms_of}
use Rattle.mp_graph.specs.Shared.{term_at}
use Rattle.mp_graph.specs.Readable.{IsNamedLeaf}
use Rattle.mp_graph.proofs.Nodes.{node_term, length-terms_of, got}

-- ---- one name more

module _ (ns : Names) (name : List ℕ) where
  more : length ns.endogenous ≤ length (ns.endogenous ++ name ∷ [])
  more = omega (arith, length-append ns.endogenous (name ∷ []))

  leaf_still : (l : LeafOp) → IsLawfulLeaf ns l → IsLawfulLeaf (with_name Endogenous name ns) l
  leaf_still (Num m s) h = h
  leaf_still (Param n) h = h
  leaf_still (Var (Endo n) k) h = (h.0, omega (arith, h.1, more))
  leaf_still (Var (Exo n) k) h = h
  leaf_still (Anchor n) h = (h.0, omega (arith, h.1, more))

  lawful_still : (op : NodeOp) → IsLawful ns op → IsLawful (with_name Endogenous name ns) op
  lawful_still (Leaf l) h = leaf_still l h
  lawful_still Neg h = tt
  lawful_still (Binary o) h = tt
  lawful_still (Pow k) h = h
  lawful_still Pick h = tt

  pub sound_still : (nodes : List Node) → IsSound ns nodes → IsSound (with_name Endogenous name ns) nodes
  sound_still nodes o i n e = let f = o i n e in record { lawful = lawful_still n.op f.lawful; count = f.count; below = f.below }

-- ---- what a leaf reads

place_below : (n k : ℕ) → 1 ≤ n → n ≤ k → place_of n < k
place_below n k h l =
    let e : place_of n ≡ n - 1 = ap (λ t. cond t 4294967295 (n - 1)) (ne_eqb n 0 (λ e. omega (arith, h))) in
    omega (arith, e)

leaf_reads : (ns : Names) (l : LeafOp) → IsLawfulLeaf ns l → IsNamedLeaf ns (leaf_of l)
leaf_reads ns (Num m s) h = tt
leaf_reads ns (Param n) h = place_below n _ h.0 h.1
leaf_reads ns (Var (Endo n) k) h = place_below n _ h.0 h.1
leaf_reads ns (Var (Exo n) k) h = place_below n _ h.0 h.1
leaf_reads ns (Anchor n) h = place_below n _ h.0 h.1

-- the leaf that a term is, or another
leaf_in : term.Leaf → Term → term.Leaf
leaf_in d (leaf l) = l
leaf_in d _ = d

op_reads : (ns : Names) (ts : List Term) (op : NodeOp) (kids : List ℕ) (l : term.Leaf) → IsLawful ns op → over ts op kids ≡ leaf l → IsNamedLeaf ns l
unfolding leaf_in
op_reads ns ts (Leaf k) kids l h e = subst (IsNamedLeaf ns) (ap (leaf_in l) e) (leaf_reads ns k h)
op_reads ns ts Neg kids l h e = absurd (let z : ⊥ = cc in z)
op_reads ns ts (Binary o) kids l h e = absurd (let z : ⊥ = cc in z)
op_reads ns ts (Pow k) kids l h e = absurd (let z : ⊥ = cc in z)
op_reads ns ts Pick kids l h e = absurd (let z : ⊥ = cc in z)

pub nodes_readable : (ns : Names) (nodes : List Node) → IsSound ns nodes → (i : ℕ) (l : term.Leaf) → i < length (terms_of nodes) → term_at (terms_of nodes) i ≡ leaf l → IsNamedLeaf ns l
nodes_readable ns nodes o i l h e =
    let x = got nodes i (omega (arith, length-terms_of nodes)) in
    op_reads ns (terms_of nodes) x.0.op x.0.kids l (o i x.0 x.1).lawful (sym (node_term ns nodes o i x.0 x.1) ∙ e)
