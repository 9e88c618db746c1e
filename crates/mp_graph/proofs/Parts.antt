-- The operands of a node are its kids' terms.
use Rattle.std.proofs.Common.{◌≡◌, ◌⊎◌, ℕ, zero, suc, ◌<◌, List, length, get_or, sym, refl, subst, inl, inr, arith}
use Rattle.mp_semantics.specs.Term.{Term}
use Rattle.mp_graph.specs.declared.op.NodeOp.{NodeOp}
use Rattle.mp_graph.specs.declared.op.NodeOp.TheVariants.{Leaf, Neg, Binary, Pow, Pick}
use Rattle.mp_graph.specs.declared.graph.Node.{Node}
use Rattle.mp_values.specs.Names.{Names}
use Rattle.mp_graph.specs.Nodes.{terms_of, IsSound}
use Rattle.mp_graph.specs.Op.{arity, over, kid}
use Rattle.mp_graph.specs.Part.{IsPart, IsIn, whole, part, HasParts}
use Rattle.mp_graph.proofs.Nodes.{node_term, length-terms_of, kid_below, got}

pub in_part : (t u v : Term) → IsIn u v → IsPart t u → IsIn t v
in_part t u v (whole w) p = part t t u p (whole t)
in_part t u v (part x w y q r) p = part t w v q (in_part t u w r p)

-- what the operands have, all that stands in a term has
pub had_in : (P : Term → Type 0) → ((t u : Term) → IsPart t u → P u → P t) → (t u : Term) → IsIn t u → P u → P t
had_in P h t u (whole v) p = p
had_in P h t u (part a b c q i) p = had_in P h t b i (h b c q p)

module _ (ts : List Term) (kids : List ℕ) where
  abbrev pub Kid : Term → Type 0
  Kid t = (n : ℕ) × (n < length kids) × (t ≡ kid ts kids n)

  of_two : (t : Term) → length kids ≡ 2 → (t ≡ kid ts kids 0) ⊎ (t ≡ kid ts kids 1) → Kid t
  of_two t c (inl e) = (0, omega arith, e)
  of_two t c (inr e) = (1, omega arith, e)

  of_four : (t : Term) → length kids ≡ 4 → ((t ≡ kid ts kids 0) ⊎ (t ≡ kid ts kids 1)) ⊎ ((t ≡ kid ts kids 2) ⊎ (t ≡ kid ts kids 3)) → Kid t
  of_four t c (inl (inl e)) = (0, omega arith, e)
  of_four t c (inl (inr e)) = (1, omega arith, e)
  of_four t c (inr (inl e)) = (2, omega arith, e)
  of_four t c (inr (inr e)) = (3, omega arith, e)

  pub part_kid : (op : NodeOp) (t : Term) → length kids ≡ arity op → IsPart t (over ts op kids) → Kid t
  part_kid (Leaf l) t c h = absurd h
  part_kid Neg t c h = (0, omega arith, h)
  part_kid (Binary o) t c h = of_two t c h
  part_kid (Pow k) t c h = (0, omega arith, h)
  part_kid Pick t c h = of_four t c h

  in_one : (n : ℕ) → n < 1 → kid ts kids n ≡ kid ts kids 0
  in_one zero l = refl
  in_one (suc n) l = absurd (omega arith)

  in_two : (n : ℕ) → n < 2 → (kid ts kids n ≡ kid ts kids 0) ⊎ (kid ts kids n ≡ kid ts kids 1)
  in_two zero l = inl refl
  in_two (suc zero) l = inr refl
  in_two (suc (suc n)) l = absurd (omega arith)

  in_four : (n : ℕ) → n < 4 → ((kid ts kids n ≡ kid ts kids 0) ⊎ (kid ts kids n ≡ kid ts kids 1)) ⊎ ((kid ts kids n ≡ kid ts kids 2) ⊎ (kid ts kids n ≡ kid ts kids 3))
  in_four zero l = inl (inl refl)
  in_four (suc zero) l = inl (inr refl)
  in_four (suc (suc zero)) l = inr (inl refl)
  in_four (suc (suc (suc zero))) l = inr (inr refl)
  in_four (suc (suc (suc (suc n)))) l = absurd (omega arith)

  pub kid_part : (op : NodeOp) (n : ℕ) → length kids ≡ arity op → n < length kids → IsPart (kid ts kids n) (over ts op kids)
  kid_part (Leaf l) n c m = absurd (omega arith)
  kid_part Neg n c l = in_one n (omega arith)
  kid_part (Binary o) n c l = in_two n (omega arith)
  kid_part (Pow k) n c l = in_one n (omega arith)
  kid_part Pick n c l = in_four n (omega arith)

pub has_parts : (names : Names) (ns : List Node) → IsSound names ns → HasParts (terms_of ns)
has_parts names ns o i t l p =
    let x = got ns i (omega (arith, length-terms_of ns)) in
    let f = o i x.0 x.1 in
    let k = part_kid (terms_of ns) x.0.kids x.0.op t f.count (subst (λ u. IsPart t u) (node_term names ns o i x.0 x.1) p) in
    (get_or x.0.kids k.0 0, kid_below i x.0.kids k.0 f.below k.1, sym k.2)
