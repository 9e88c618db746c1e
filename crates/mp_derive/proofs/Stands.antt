-- What holds of an operator over the kids of a node, holds of the node.
use Rattle.std.proofs.Common.{◌≡◌, ℕ, ℤ, List, length, get_or, sym, ap, ◌∙◌, subst, arith}
use Rattle.std.proofs.lemmas.Grind.{get_or_default_zero}
use Rattle.mp_semantics.specs.Term as term
use Rattle.mp_semantics.specs.Term.{binary, power_of, pick}
use Rattle.mp_graph.specs.declared.op.BinaryOp.{BinaryOp}
use Rattle.mp_graph.specs.declared.op.NodeOp.{NodeOp}
use Rattle.mp_graph.specs.declared.op.NodeOp.TheVariants.{Binary, Pow, Pick}
use Rattle.mp_graph.specs.Op.{arity, binary_of, over}
use Rattle.mp_graph.specs.Shared.{term_at}

module _ (P : term.Term → Type 0) (ts : List term.Term) (id : ℕ) (op : NodeOp) (kids : List ℕ)
    (says : term_at ts id ≡ over ts op kids) (count : length kids ≡ arity op) where
  pub binary_stands : (o : BinaryOp) → op ≡ Binary o → (x y : ℕ)
      → P (binary (binary_of o) (term_at ts (get_or kids 0 x)) (term_at ts (get_or kids 1 y))) → P (term_at ts id)
  binary_stands o e x y s =
      let n : length kids ≡ 2 = count ∙ ap arity e in
      let t : term_at ts id ≡ over ts (Binary o) kids = says ∙ ap (λ (p : NodeOp). over ts p kids) e in
      let a = get_or_default_zero kids 0 x (omega (arith, n)) in
      let b = get_or_default_zero kids 1 y (omega (arith, n)) in
      subst P
      (ap (λ (i : ℕ). binary (binary_of o) (term_at ts i) (term_at ts (get_or kids 1 y))) a ∙ ap (λ (i : ℕ). binary (binary_of o) (term_at ts (get_or kids 0 0)) (term_at ts i)) b ∙ sym t) s

  pub power_stands : (k : ℤ) → op ≡ Pow k → (x : ℕ) → P (power_of (term_at ts (get_or kids 0 x)) k) → P (term_at ts id)
  power_stands k e x s =
      let n : length kids ≡ 1 = count ∙ ap arity e in
      let t : term_at ts id ≡ over ts (Pow k) kids = says ∙ ap (λ (p : NodeOp). over ts p kids) e in
      let a = get_or_default_zero kids 0 x (omega (arith, n)) in
      subst P (ap (λ (i : ℕ). power_of (term_at ts i) k) a ∙ sym t) s

  pub pick_stands : op ≡ Pick → (x y z w : ℕ)
      → P (pick (term_at ts (get_or kids 0 x)) (term_at ts (get_or kids 1 y)) (term_at ts (get_or kids 2 z)) (term_at ts (get_or kids 3 w))) → P (term_at ts id)
  pick_stands e x y z w s =
      let n : length kids ≡ 4 = count ∙ ap arity e in
      let t : term_at ts id ≡ over ts Pick kids = says ∙ ap (λ (p : NodeOp). over ts p kids) e in
      let a = get_or_default_zero kids 0 x (omega (arith, n)) in
      let b = get_or_default_zero kids 1 y (omega (arith, n)) in
      let c = get_or_default_zero kids 2 z (omega (arith, n)) in
      let d = get_or_default_zero kids 3 w (omega (arith, n)) in
      subst P
      (ap (λ (i : ℕ). pick (term_at ts i) (term_at ts (get_or kids 1 y)) (term_at ts (get_or kids 2 z)) (term_at ts (get_or kids 3 w))) a
      ∙ ap (λ (i : ℕ). pick (term_at ts (get_or kids 0 0)) (term_at ts i) (term_at ts (get_or kids 2 z)) (term_at ts (get_or kids 3 w))) b
      ∙ ap (λ (i : ℕ). pick (term_at ts (get_or kids 0 0)) (term_at ts (get_or kids 1 0)) (term_at ts i) (term_at ts (get_or kids 3 w))) c
      ∙ ap (λ (i : ℕ). pick (term_at ts (get_or kids 0 0)) (term_at ts (get_or kids 1 0)) (term_at ts (get_or kids 2 0)) (term_at ts i)) d ∙ sym t) s
