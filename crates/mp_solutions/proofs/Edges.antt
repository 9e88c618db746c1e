-- Environments in which the leaves of a model have the same values, and so its solutions.
use Rattle.std.proofs.Common.{◌≡◌, ℕ, suc, zero, ℤ, pos, negsuc, ◌+◌, ◌<◌, ◌≤◌, ◌+ℤ◌, Bool, true, false, cond, IsTrue, Some, None, List, refl, ap, sym, ◌∙◌, subst, arith, inl, inr}
use Rattle.std.proofs.lemmas.Bool.{lt-ltb, ltb-true, false≢true}
use Rattle.mp_semantics.specs.Term.{Leaf, number, parameter, variable, steady_state, Term, endogenous, exogenous}
use Rattle.mp_semantics.specs.Value.{Environment, val}
use Rattle.mp_semantics.specs.Model.{Model, Regime, is_declared, in_force, is_in_force}
use Rattle.mp_semantics.specs.Solves.{Path, Boundary, Edge, is_inside, given, environment, Meets, Solves, regime}
use Rattle.mp_solutions.specs.Leaves.{AllLeaves, AllEquationLeaves, AllModelLeaves}
use Rattle.mp_solutions.specs.Auxiliaries.{Direction, lead, lag, shift_by, width, lengths, auxiliaries_of, stand_in_of}
use Rattle.mp_solutions.specs.Transformed.{short_leaf, transformed}
use Rattle.mp_solutions.specs.Extension.{extended_boundary, HasRim, extended_environment}
use Rattle.mp_solutions.specs.Laws.{IsClosed, IsSameLeaf, Extends, HasSameSolutionsWithin, ReadsOwnPart}
use Rattle.mp_solutions.proofs.Lists.{each_of, each_both, each_filter, each_all, each_get}
use Rattle.mp_solutions.proofs.Leaves.{val-with_leaves, with_same_leaves, all_leaves, each_leaf}
use Rattle.mp_solutions.proofs.Numbering.{auxiliary, stand_in_get}
use Rattle.mp_solutions.proofs.Periods.{within, stay, Reached, reached}
use Rattle.mp_solutions.proofs.Values.{own, declared_below, below_declared, IsFit, each_fits}
use Rattle.mp_solutions.proofs.Solutions.{same_parts, has_same_solutions}
use Rattle.mp_solutions.proofs.Shape.{transformed_leaves}
use Rattle.mp_solutions.proofs.Which.{has_rims}

abbrev pub itself : Leaf → Leaf
itself l = l

-- a leaf has one value in both environments
abbrev pub IsAlike : Environment → Environment → ℕ → Leaf → Type 0
IsAlike env old t l = IsSameLeaf itself env (pos t) old (pos t) l

-- a term has one value where each of its leaves has
alike : (env old : Environment) (t : ℕ) (e : Term) → AllLeaves (IsAlike env old t) e → val e env (pos t) ≡ val e old (pos t)
alike env old t e h =
    ap (λ x. val x env (pos t)) (sym (with_same_leaves itself e (each_leaf (λ l. itself l ≡ l) (λ l. refl) e)))
    ∙ val-with_leaves itself env old (pos t) (pos t) e h

-- so an equation is met in both
pub solved_alike : (M : Model) (T : ℕ) (R : List Regime) (env old : Environment)
    → ((t : ℕ) → 1 ≤ t → t ≤ T → AllModelLeaves (IsAlike env old t) M) → Solves M T R old → Solves M T R env
solved_alike M T R env old h s t l u =
    each_both (AllEquationLeaves (IsAlike env old t)) (Meets old t) (Meets env t)
    (λ e f m. same_parts _ _ _ _ (sym (alike env old t e.left f.0)) (sym (alike env old t e.right f.1)) m)
    (in_force M (regime R t))
    (each_filter (AllEquationLeaves (IsAlike env old t)) (is_in_force (regime R t)) M.equations (h t l u))
    (s t l u)

pub each_turned : (M : Model) (env old : Environment) (t : ℕ) → AllModelLeaves (IsAlike env old t) M → AllModelLeaves (IsAlike old env t) M
each_turned M env old t h =
    each_of (AllEquationLeaves (IsAlike env old t)) (AllEquationLeaves (IsAlike old env t)) (λ e f. (side e.left f.0, side e.right f.1)) M.equations h
  where
    side : (e : Term) → AllLeaves (IsAlike env old t) e → AllLeaves (IsAlike old env t) e
    side e f = all_leaves (IsAlike env old t) (IsAlike old env t) (λ l h. sym h) e f

-- ---- the transformed model, within two edges

module _ (M : Model) (c : IsClosed M) (T : ℕ) (b : Boundary) (q : Path) (edge : Edge) (x : Extends M T b edge) where
  abbrev pub other : Environment
  other = environment (transformed M) T edge q

  own_variable : (v : ℕ) (s : ℤ) → v < width M → other.value (endogenous v) s ≡ (extended_environment M T b q).value (endogenous v) s
  own_variable v s h = rw (x.declared (endogenous v) s (below_declared M v h), lt-ltb v (width M) h) refl

  outside : (v : ℕ) (s : ℤ) → IsTrue (is_declared M (exogenous v)) → other.value (exogenous v) s ≡ (extended_environment M T b q).value (exogenous v) s
  outside v s h = rw (x.declared (exogenous v) s h) refl

  in_reach : (v : ℕ) (d : Direction) (k : ℕ) (s : ℤ) → v < width M → k ≤ lengths M d v → Reached T d s
      → other.value (endogenous (stand_in_of M v d k)) s ≡ (extended_environment M T b q).value (endogenous (stand_in_of M v d k)) s
  in_reach v d zero s h l r = own_variable v s h
  in_reach v d (suc k) s h l (inl r) =
      let P : ℤ → Type 0 = λ s. other.value (endogenous (stand_in_of M v d (suc k))) s ≡ (extended_environment M T b q).value (endogenous (stand_in_of M v d (suc k))) s in
      subst P (sym r.1) (rw (within T r.0 r.2 r.3) refl)
  in_reach v d (suc k) s h l (inr e) =
      let P : ℤ → Type 0 = λ s. other.value (endogenous (stand_in_of M v d (suc k))) s ≡ (extended_environment M T b q).value (endogenous (stand_in_of M v d (suc k))) s in
      let there = stand_in_get (lengths M) (width M) v d k h (omega arith) in
      let same = each_get (HasRim M T b edge) (auxiliaries_of M) _ (auxiliary v d k) x.rims there in
      let both = same ∙ sym (each_get (HasRim M T b (extended_boundary M T b)) (auxiliaries_of M) _ (auxiliary v d k) (has_rims M T b) there) in
      subst P (sym e) (rw both refl)

  all_alike : (t : ℕ) → 1 ≤ t → t ≤ T → AllModelLeaves (IsAlike other (extended_environment M T b q) t) (transformed M)
  all_alike t l u =
      transformed_leaves M (IsFit M) (IsAlike other (extended_environment M T b q) t) (each_fits M c) at
      (λ v d k below near. (in_reach v d (suc k) (pos t +ℤ pos 0) below near (inl (t, stay (pos t) lead, l, u)), one v d k below (omega arith)))
    where
      one : (v : ℕ) (d : Direction) (k : ℕ) → v < width M → k ≤ lengths M d v → IsAlike other (extended_environment M T b q) t (variable (endogenous (stand_in_of M v d k)) (shift_by d 1))
      one v d k h n = in_reach v d k (pos t +ℤ shift_by d 1) h n (reached T d t l u)

      at : (l : Leaf) → IsFit M l → IsAlike other (extended_environment M T b q) t (short_leaf (stand_in_of M) l)
      at (number m s) f = refl
      at (parameter p) f = refl
      at (variable (endogenous v) (pos zero)) f = own_variable v (pos t +ℤ pos 0) (declared_below M v f.0)
      at (variable (endogenous v) (pos (suc k))) f = one v lead k (declared_below M v f.0) (let e = own lead v (pos (suc k)) _ (f.1 lead v) in omega arith)
      at (variable (endogenous v) (negsuc k)) f = one v lag k (declared_below M v f.0) (let e = own lag v (negsuc k) _ (f.1 lag v) in omega arith)
      at (variable (exogenous v) k) f = outside v (pos t +ℤ k) f.0
      at (steady_state v) f = own_variable v (pos (T + 1)) (declared_below M v f.0)

  to_extended : (R : List Regime) → Solves (transformed M) T R other → Solves (transformed M) T R (extended_environment M T b q)
  to_extended R s = solved_alike (transformed M) T R (extended_environment M T b q) other (λ t l u. each_turned (transformed M) other (extended_environment M T b q) t (all_alike t l u)) s

  from_extended : (R : List Regime) → Solves (transformed M) T R (extended_environment M T b q) → Solves (transformed M) T R other
  from_extended R s = solved_alike (transformed M) T R other (extended_environment M T b q) all_alike s

pub same_within : (M : Model) → IsClosed M → HasSameSolutionsWithin M
same_within M c T R b q edge x = (
  λ s. (has_same_solutions M c T R b q).0 (to_extended M c T b q edge x R s),
  λ h. from_extended M c T b q edge x R ((has_same_solutions M c T R b q).1 h),
)

-- ---- a model reads its own part of a path

module _ (M : Model) (T : ℕ) (b : Boundary) (q p : Path) (same : (v t : ℕ) → v < width M → 1 ≤ t → t ≤ T → q v (pos t) ≡ p v (pos t)) where
  inside_alike : (v : ℕ) (s : ℤ) → v < width M → is_inside T s ≡ true → q v s ≡ p v s
  inside_alike v (pos zero) h e = absurd (false≢true e)
  inside_alike v (pos (suc t)) h e = let w = ltb-true t T e in same v (suc t) h (omega arith) (omega arith)
  inside_alike v (negsuc k) h e = absurd (false≢true e)

  value_alike : (v : ℕ) (s : ℤ) → (environment M T (given T b) p).value (endogenous v) s ≡ (environment M T (given T b) q).value (endogenous v) s
  value_alike v s = by (is_declared M (endogenous v)) (is_inside T s) refl refl
    where
      by : (c d : Bool) → is_declared M (endogenous v) ≡ c → is_inside T s ≡ d
          → cond c (cond d (Some (p v s)) (given T b (endogenous v) s)) None ≡ cond c (cond d (Some (q v s)) (given T b (endogenous v) s)) None
      by true true e f = ap Some (sym (inside_alike v s (declared_below M v e) f))
      by true false e f = refl
      by false d e f = refl

  leaf_alike : (t : ℕ) (l : Leaf) → IsAlike (environment M T (given T b) p) (environment M T (given T b) q) t l
  leaf_alike t (number m s) = refl
  leaf_alike t (parameter r) = refl
  leaf_alike t (variable (endogenous v) k) = value_alike v (pos t +ℤ k)
  leaf_alike t (variable (exogenous v) k) = refl
  leaf_alike t (steady_state v) = value_alike v (pos (T + 1))

  pub all_own : (t : ℕ) → AllModelLeaves (IsAlike (environment M T (given T b) p) (environment M T (given T b) q) t) M
  all_own t =
      each_all (AllEquationLeaves (IsAlike (environment M T (given T b) p) (environment M T (given T b) q) t)) M.equations
      (λ e. (each_leaf (IsAlike (environment M T (given T b) p) (environment M T (given T b) q) t) (leaf_alike t) e.left, each_leaf (IsAlike (environment M T (given T b) p) (environment M T (given T b) q) t) (leaf_alike t) e.right))

pub reads_own_part : (M : Model) → ReadsOwnPart M
reads_own_part M T R b q p same s =
    solved_alike M T R (environment M T (given T b) p) (environment M T (given T b) q) (λ t l u. all_own M T b q p same t) s
