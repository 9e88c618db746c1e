-- The greatest shifts of a model, node by node.
use Rattle.std.proofs.Common.{◌≡◌, ℕ, zero, suc, ◌<◌, ◌≤◌, max, List, [], ◌∷◌, length, get_or, refl, ap, sym, ◌∙◌, subst, inl, inr, arith}
use Rattle.std.specs.Prelude.{replicate}
use Rattle.mp_semantics.specs.Term.{Term, leaf, negative, binary, power_of, pick}
use Rattle.mp_semantics.specs.Model.{Equation}
use Rattle.mp_graph.specs.Shared.{term_at}
use Rattle.mp_graph.specs.Part.{IsPart, IsIn, whole, part}
use Rattle.mp_graph.specs.Own.{AreOwn}
use Rattle.mp_graph.proofs.Walk.{own_all}
use Rattle.mp_model_data.specs.Shown.{Sides, equation_in}
use Rattle.mp_solutions.specs.Auxiliaries.{Direction, lead, lag, term_shift, equations_shift}
use Rattle.mp_shift.specs.declared.reach.Reach.{Reach}
use Rattle.mp_shift.specs.Reach.{no_reach, reach_at, RaisedBy, node_shift, nodes_shift}

abbrev pub By : Type 0
By = Direction → ℕ → ℕ

-- ---- the nodes of a term

module _ (ts : List Term) (d : Direction) (v : ℕ) where
  node_le : (t : Term) → node_shift d v t ≤ term_shift d v t
  node_le (leaf l) = omega arith
  node_le (negative a) = omega arith
  node_le (binary op a b) = omega arith
  node_le (power_of a k) = omega arith
  node_le (pick a b c e) = omega arith

  at_most : (n : ℕ) (t u : Term) → t ≡ u → term_shift d v u ≤ n → term_shift d v t ≤ n
  at_most n t u e h = subst (λ w. term_shift d v w ≤ n) (sym e) h

  part_le : (t u : Term) → IsPart t u → term_shift d v t ≤ term_shift d v u
  part_le t (leaf l) h = absurd h
  part_le t (negative a) h = at_most _ t a h (omega arith)
  part_le t (binary op a b) (inl h) = at_most _ t a h (omega arith)
  part_le t (binary op a b) (inr h) = at_most _ t b h (omega arith)
  part_le t (power_of a k) h = at_most _ t a h (omega arith)
  part_le t (pick a b c e) (inl (inl h)) = at_most _ t a h (omega arith)
  part_le t (pick a b c e) (inl (inr h)) = at_most _ t b h (omega arith)
  part_le t (pick a b c e) (inr (inl h)) = at_most _ t c h (omega arith)
  part_le t (pick a b c e) (inr (inr h)) = at_most _ t e h (omega arith)

  in_le : (t u : Term) → IsIn t u → term_shift d v t ≤ term_shift d v u
  in_le t u (whole w) = omega arith
  in_le t u (part a b c p i) = omega (arith, in_le t b i, part_le b c p)

  -- what bounds each node that stands in a term bounds the term
  bounds : (m : ℕ) (t : Term) → ((u : Term) → IsIn u t → node_shift d v u ≤ m) → term_shift d v t ≤ m
  bounds m (leaf l) h = h (leaf l) (whole (leaf l))
  bounds m (negative a) h = bounds m a (λ u i. h u (part u a (negative a) refl i))
  bounds m (binary op a b) h =
      let x = bounds m a (λ u i. h u (part u a (binary op a b) (inl refl) i)) in
      let y = bounds m b (λ u i. h u (part u b (binary op a b) (inr refl) i)) in
      omega (arith, x, y)
  bounds m (power_of a k) h = bounds m a (λ u i. h u (part u a (power_of a k) refl i))
  bounds m (pick a b c e) h =
      let w = bounds m a (λ u i. h u (part u a (pick a b c e) (inl (inl refl)) i)) in
      let x = bounds m b (λ u i. h u (part u b (pick a b c e) (inl (inr refl)) i)) in
      let y = bounds m c (λ u i. h u (part u c (pick a b c e) (inr (inl refl)) i)) in
      let z = bounds m e (λ u i. h u (part u e (pick a b c e) (inr (inr refl)) i)) in
      omega (arith, w, x, y, z)

  nodes_le : (m : ℕ) (ids : List ℕ) → ((k : ℕ) → k < length ids → node_shift d v (term_at ts (get_or ids k 0)) ≤ m) → nodes_shift ts d v ids ≤ m
  nodes_le m [] h = omega arith
  nodes_le m (id ∷ ids) h = omega (arith, h 0 (omega arith), nodes_le m ids (λ k l. h (suc k) (omega arith)))

  nodes_ge : (ids : List ℕ) (k : ℕ) → k < length ids → node_shift d v (term_at ts (get_or ids k 0)) ≤ nodes_shift ts d v ids
  nodes_ge [] k h = absurd (omega arith)
  nodes_ge (id ∷ ids) zero h = omega arith
  nodes_ge (id ∷ ids) (suc k) h = omega (arith, nodes_ge ids k (omega arith))

  pub own_shift : (root : ℕ) (ids : List ℕ) → AreOwn ts root ids → nodes_shift ts d v ids ≡ term_shift d v (term_at ts root)
  own_shift root ids o =
      let low : nodes_shift ts d v ids ≤ term_shift d v (term_at ts root) =
      nodes_le (term_shift d v (term_at ts root)) ids (λ k l. omega (arith, node_le (term_at ts (get_or ids k 0)), in_le (term_at ts (get_or ids k 0)) (term_at ts root) (o.only k l))) in
      let high : term_shift d v (term_at ts root) ≤ nodes_shift ts d v ids =
      bounds (nodes_shift ts d v ids) (term_at ts root)
      (λ u i.
      let k = own_all ts root ids o u i in
      subst (λ t. node_shift d v t ≤ nodes_shift ts d v ids) k.2 (nodes_ge ids k.0 k.1)) in
      omega (arith, low, high)

-- ---- turns

pub raised_side : (ts : List Term) (rs new : List Reach) (root : ℕ) (ids own : List ℕ) → ids ≡ own → AreOwn ts root own → RaisedBy rs new (λ d v. nodes_shift ts d v ids) → RaisedBy rs new (λ d v. term_shift d v (term_at ts root))
raised_side ts rs new root ids own e o r = record {
  count = r.count;
  each = λ d v. r.each d v ∙ ap (λ (n : ℕ). max (reach_at rs d v) n) (ap (nodes_shift ts d v) e ∙ own_shift ts d v root own o);
}

max_all : (o l r m : ℕ) → max (max (max o l) r) m ≡ max o (max (max l r) m)
max_all o l r m = omega arith

-- both sides of the equation that comes next
pub raised_equation : (ts : List Term) (rs mid new : List Reach) (x : Sides) (rest next : List Equation) (before : By) → next ≡ equation_in ts x ∷ rest
    → ((d : Direction) (v : ℕ) → max (reach_at rs d v) (equations_shift d v next) ≡ before d v)
    → RaisedBy rs mid (λ d v. term_shift d v (term_at ts x.left)) → RaisedBy mid new (λ d v. term_shift d v (term_at ts x.right))
    → (d : Direction) (v : ℕ) → max (reach_at new d v) (equations_shift d v rest) ≡ before d v
raised_equation ts rs mid new x rest next before is so_far l r d v =
    ap (λ (n : ℕ). max n (equations_shift d v rest)) (r.each d v ∙ ap (λ (n : ℕ). max n (term_shift d v (term_at ts x.right))) (l.each d v))
    ∙ max_all (reach_at rs d v) (term_shift d v (term_at ts x.left)) (term_shift d v (term_at ts x.right)) (equations_shift d v rest)
    ∙ ap (λ (n : ℕ). max (reach_at rs d v) n) (sym (ap (equations_shift d v) is))
    ∙ so_far d v

pub nowhere_at : (n : ℕ) (d : Direction) (v : ℕ) → reach_at (replicate n no_reach) d v ≡ 0
nowhere_at zero lead v = refl
nowhere_at zero lag v = refl
nowhere_at (suc n) lead zero = refl
nowhere_at (suc n) lag zero = refl
nowhere_at (suc n) d (suc v) = nowhere_at n d v
