-- The leaves of equations in a graph are leaves of the graph.
use Rattle.std.proofs.Common.{◌≡◌, ℕ, ◌<◌, List, [], ◌∷◌, map, length, refl, sym, subst, arith, inl, inr}
use Rattle.std.specs.List.{AllByRecursion}
use Rattle.std.proofs.lemmas.Bool.{lt-ltb}
use Rattle.mp_semantics.specs.Term.{Leaf, number, parameter, variable, endogenous, exogenous, steady_state, Term, leaf, negative, binary, power_of, pick}
use Rattle.mp_graph.specs.Shared.{term_at}
use Rattle.mp_graph.specs.Part.{IsPart, HasParts}
use Rattle.mp_graph.specs.Readable.{IsNamedLeaf}
use Rattle.mp_solutions.specs.Leaves.{AllLeaves, AllEquationLeaves}
use Rattle.mp_solutions.specs.Laws.{IsDeclaredLeaf, IsClosed}
use Rattle.mp_model_data.specs.Shown.{Held, Sides, IsWithin, equation_in, model_data}

module _ (ts : List Term) (parts : HasParts ts) (P : Leaf → Type 0) (h : (i : ℕ) (l : Leaf) → i < length ts → term_at ts i ≡ leaf l → P l) where
  operand : (t u : Term) (i : ℕ) → i < length ts → term_at ts i ≡ u → IsPart t u → ((j : ℕ) → j < length ts → term_at ts j ≡ t → AllLeaves P t) → AllLeaves P t
  operand t u i l e p next =
      let j = parts i t l (subst (λ v. IsPart t v) (sym e) p) in
      next j.0 (omega (arith, l, j.1)) j.2

  -- what holds of the leaves of the list, holds of those of each of its terms
  leaves_of : (t : Term) (i : ℕ) → i < length ts → term_at ts i ≡ t → AllLeaves P t
  leaves_of (leaf l) i w e = h i l w e
  leaves_of (negative a) i w e = operand a (negative a) i w e refl (leaves_of a)
  leaves_of (binary o a b) i w e = (operand a (binary o a b) i w e (inl refl) (leaves_of a), operand b (binary o a b) i w e (inr refl) (leaves_of b))
  leaves_of (power_of a k) i w e = operand a (power_of a k) i w e refl (leaves_of a)
  leaves_of (pick a b c d) i w e = (
    operand a (pick a b c d) i w e (inl (inl refl)) (leaves_of a),
    operand b (pick a b c d) i w e (inl (inr refl)) (leaves_of b),
    operand c (pick a b c d) i w e (inr (inl refl)) (leaves_of c),
    operand d (pick a b c d) i w e (inr (inr refl)) (leaves_of d),
  )

  pub equations_leaves : (names : _) (es : List Sides) → AllByRecursion (IsWithin (record { names = names; terms = ts })) es → AllByRecursion (AllEquationLeaves P) (map (equation_in ts) es)
  equations_leaves names [] w = tt
  equations_leaves names (x ∷ es) w = ((leaves_of (term_at ts x.left) x.left w.0.left refl, leaves_of (term_at ts x.right) x.right w.0.right refl), equations_leaves names es w.1)

declared : (h : Held) (l : Leaf) → IsNamedLeaf h.graph.names l → IsDeclaredLeaf (model_data h) l
declared h (number m s) n = tt
declared h (parameter p) n = tt
declared h (variable (endogenous v) k) n = lt-ltb v (length h.graph.names.endogenous) n
declared h (variable (exogenous v) k) n = lt-ltb v (length h.graph.names.exogenous) n
declared h (steady_state v) n = lt-ltb v (length h.graph.names.endogenous) n

pub is_closed : (h : Held) → HasParts h.graph.terms → ((i : ℕ) (l : Leaf) → i < length h.graph.terms → term_at h.graph.terms i ≡ leaf l → IsNamedLeaf h.graph.names l) → AllByRecursion (IsWithin h.graph) h.equations → IsClosed (model_data h)
is_closed h parts readable within =
    equations_leaves h.graph.terms parts (IsDeclaredLeaf (model_data h)) (λ i l w e. declared h l (readable i l w e)) h.graph.names h.equations within
