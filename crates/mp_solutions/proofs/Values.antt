-- What the two environments give, and the values of terms in them.
use Rattle.std.proofs.Common.{◌≡◌, ℕ, suc, zero, ℤ, pos, negsuc, ◌+◌, ◌-◌, ◌<◌, ◌≤◌, ◌+ℤ◌, true, IsTrue, Some, map, length, refl, ap, sym, ◌∙◌, subst, arith, inl, inr}
use Rattle.std.specs.List.{AllByRecursion as Each}
use Rattle.std.proofs.lemmas.Bool.{lt-ltb, ltb-true, ltb-false, eq-eqb}
use Rattle.std.proofs.lemmas.List.{length-append, length-map}
use Rattle.std.proofs.lemmas.Option.{slice_get_within}
use Rattle.mp_semantics.specs.Term.{Leaf, number, parameter, variable, steady_state, Term, endogenous, exogenous}
use Rattle.mp_semantics.specs.Model.{Model, Equation, is_declared}
use Rattle.mp_semantics.specs.Solves.{Path, Boundary}
use Rattle.mp_solutions.specs.Leaves.{AllLeaves, AllEquationLeaves}
use Rattle.mp_solutions.specs.Auxiliaries.{Direction, lead, lag, shift_by, distance, width, leaf_shift, lengths, auxiliaries_of, stand_in_of, auxiliary_name}
use Rattle.mp_solutions.specs.Transformed.{transformed, short_leaf}
use Rattle.mp_solutions.specs.Extension.{rim, source_environment, extended_environment, HasShiftedValue, HasShiftedValues}
use Rattle.mp_solutions.specs.Laws.{IsDeclaredLeaf, IsClosed, IsSameLeaf, IsSameAt}
use Rattle.mp_solutions.proofs.Lists.{each_get, each_both}
use Rattle.mp_solutions.proofs.Leaves.{val-with_leaves, all_leaves, both_leaves, IsWithin, equations_within}
use Rattle.mp_solutions.proofs.Numbering.{auxiliary, stand_in_get, stand_in_above}
use Rattle.mp_solutions.proofs.Periods.{within, at_rim, past_rim, same_period, stay, turn, Reached, reached}

-- a variable's own shift that way
pub own : (d : Direction) (v : ℕ) (k : ℤ) (m : ℕ) → leaf_shift d v (variable (endogenous v) k) ≤ m → distance d k ≤ m
own d v k m h = rw (eq-eqb v v refl) at h

-- ---- the variables that the transformed model has

pub width_is : (M : Model) → width (transformed M) ≡ width M + length (auxiliaries_of M)
width_is M =
    length-append M.endogenous_names (map (auxiliary_name M.endogenous_names) (auxiliaries_of M))
    ∙ ap (λ (n : ℕ). width M + n) (length-map (auxiliaries_of M) (auxiliary_name M.endogenous_names))

pub declared_below : (M : Model) (v : ℕ) → IsTrue (is_declared M (endogenous v)) → v < width M
declared_below M v h = ltb-true v (width M) h

pub below_declared : (M : Model) (v : ℕ) → v < width M → is_declared M (endogenous v) ≡ true
below_declared M v h = lt-ltb v (width M) h

pub stand_in_below : (M : Model) (v : ℕ) (d : Direction) (k : ℕ) → v < width M → k ≤ lengths M d v → stand_in_of M v d k < width (transformed M)
stand_in_below M v d zero h l = omega (arith, width_is M)
stand_in_below M v d (suc k) h l =
    let i = slice_get_within (auxiliaries_of M) (stand_in_of M v d (suc k) - width M) (auxiliary v d k) (stand_in_get (lengths M) (width M) v d k h (omega arith)) in
    let j = ltb-false _ _ (stand_in_above (lengths M) (width M) v d k) in
    omega (arith, width_is M)

-- each leaf of the equations is declared, and shifted no further than the chains reach
abbrev pub IsFit : Model → Leaf → Type 0
IsFit M l = IsDeclaredLeaf M l × IsWithin (λ d v. suc (lengths M d v)) l

pub each_fits : (M : Model) → IsClosed M → Each (AllEquationLeaves (IsFit M)) M.equations
each_fits M c =
    each_both (AllEquationLeaves (IsDeclaredLeaf M)) (AllEquationLeaves (IsWithin (λ d v. suc (lengths M d v)))) (AllEquationLeaves (IsFit M))
    (λ e h k. (both_leaves (IsDeclaredLeaf M) (IsWithin (λ d v. suc (lengths M d v))) e.left h.0 k.0, both_leaves (IsDeclaredLeaf M) (IsWithin (λ d v. suc (lengths M d v))) e.right h.1 k.1))
    M.equations c (equations_within (λ d v. suc (lengths M d v)) M.equations (λ d v. omega arith))

module _ (M : Model) (T : ℕ) (b : Boundary) (q : Path) where
  -- a variable of the source has its value in both
  pub same_value : (v : ℕ) (s : ℤ) → v < width M → (extended_environment M T b q).value (endogenous v) s ≡ (source_environment M T b q).value (endogenous v) s
  same_value v s h =
      let w : v < width (transformed M) = omega (arith, width_is M) in
      rw (lt-ltb v (width (transformed M)) w, lt-ltb v (width M) h) refl

  -- in the horizon a variable of the transformed model has the path's value
  pub has : (i t : ℕ) → i < width (transformed M) → 1 ≤ t → t ≤ T → (extended_environment M T b q).value (endogenous i) (pos t) ≡ Some (q i (pos t))
  has i t h l u = rw (lt-ltb i (width (transformed M)) h, within T t l u) refl

  -- what stands for v, k periods away, has its value there
  abbrev pub Stands : ℕ → Direction → ℕ → ℤ → Type 0
  Stands v d k s = (extended_environment M T b q).value (endogenous (stand_in_of M v d k)) s ≡ (extended_environment M T b q).value (endogenous v) (s +ℤ shift_by d k)

  stands_at_rim : (v : ℕ) (d : Direction) (k : ℕ) → v < width M → k < lengths M d v → Stands v d (suc k) (rim T d)
  stands_at_rim v d k h l =
      let w : v < width (transformed M) = omega (arith, width_is M) in
      rw (lt-ltb v (width (transformed M)) w, lt-ltb (stand_in_of M v d (suc k)) (width (transformed M)) (stand_in_below M v d (suc k) h (omega arith)), at_rim T d, past_rim T d k, lt-ltb v (width M) h, stand_in_above (lengths M) (width M) v d k, stand_in_get (lengths M) (width M) v d k h l, same_period (rim T d)) refl

  -- in the horizon, and one period past it
  abbrev pub AllStand : Type 0
  AllStand = (v : ℕ) (d : Direction) (k : ℕ) (s : ℤ) → v < width M → k ≤ lengths M d v → Reached T d s → Stands v d k s

  pub all_stand : HasShiftedValues M T b q → AllStand
  all_stand h v d zero s below near r = ap (λ (u : ℤ). (extended_environment M T b q).value (endogenous v) u) (sym (stay s d))
  all_stand h v d (suc k) s below near (inl r) =
      subst (Stands v d (suc k)) (sym r.1)
      (has (stand_in_of M v d (suc k)) r.0 (stand_in_below M v d (suc k) below near) r.2 r.3
      ∙ sym (each_get
      (HasShiftedValue M T b q)
      (auxiliaries_of M) _ (auxiliary v d k) h (stand_in_get (lengths M) (width M) v d k below (omega arith)) r.0 r.2 r.3)
      ∙ sym (same_value v (pos r.0 +ℤ shift_by d (suc k)) below))
  all_stand h v d (suc k) s below near (inr e) = subst (Stands v d (suc k)) (sym e) (stands_at_rim v d k below (omega arith))

  -- the equation of the auxiliary of v with that index, in each period of the horizon
  abbrev pub Chained : ℕ → Direction → ℕ → Type 0
  Chained v d k = (t : ℕ) → 1 ≤ t → t ≤ T
      → (extended_environment M T b q).value (endogenous (stand_in_of M v d (suc k))) (pos t) ≡ (extended_environment M T b q).value (endogenous (stand_in_of M v d k)) (pos t +ℤ shift_by d 1)

  pub all_stand_by_chains : ((v : ℕ) (d : Direction) (k : ℕ) → v < width M → k < lengths M d v → Chained v d k) → AllStand
  all_stand_by_chains h v d zero s below near r = ap (λ (u : ℤ). (extended_environment M T b q).value (endogenous v) u) (sym (stay s d))
  all_stand_by_chains h v d (suc k) s below near (inl r) =
      subst (Stands v d (suc k)) (sym r.1)
      (h v d k below (omega arith) r.0 r.2 r.3
      ∙ all_stand_by_chains h v d k (pos r.0 +ℤ shift_by d 1) below (omega arith) (reached T d r.0 r.2 r.3)
      ∙ ap (λ (u : ℤ). (extended_environment M T b q).value (endogenous v) u) (turn (pos r.0) d k))
  all_stand_by_chains h v d (suc k) s below near (inr e) = subst (Stands v d (suc k)) (sym e) (stands_at_rim v d k below (omega arith))

  -- one period on to what stands for v, k periods on: v, k + 1 periods on
  step : (v : ℕ) (d : Direction) (k t : ℕ) → AllStand → v < width M → suc k ≤ suc (lengths M d v) → 1 ≤ t → t ≤ T
      → (extended_environment M T b q).value (endogenous (stand_in_of M v d k)) (pos t +ℤ shift_by d 1) ≡ (source_environment M T b q).value (endogenous v) (pos t +ℤ shift_by d (suc k))
  step v d k t h below near l u =
      h v d k (pos t +ℤ shift_by d 1) below (omega arith) (reached T d t l u)
      ∙ ap (λ (u : ℤ). (extended_environment M T b q).value (endogenous v) u) (turn (pos t) d k) ∙ same_value v (pos t +ℤ shift_by d (suc k)) below

  -- a leaf and its short form have one value
  same_leaf : AllStand → (t : ℕ) → 1 ≤ t → t ≤ T → (l : Leaf) → IsFit M l → IsSameLeaf (short_leaf (stand_in_of M)) (extended_environment M T b q) (pos t) (source_environment M T b q) (pos t) l
  same_leaf h t l u (number m s) f = refl
  same_leaf h t l u (parameter p) f = refl
  same_leaf h t l u (variable (endogenous v) (pos zero)) f = same_value v (pos t +ℤ pos 0) (declared_below M v f.0)
  same_leaf h t l u (variable (endogenous v) (pos (suc k))) f = step v lead k t h (declared_below M v f.0) (own lead v (pos (suc k)) _ (f.1 lead v)) l u
  same_leaf h t l u (variable (endogenous v) (negsuc k)) f = step v lag k t h (declared_below M v f.0) (own lag v (negsuc k) _ (f.1 lag v)) l u
  same_leaf h t l u (variable (exogenous v) k) f = refl
  same_leaf h t l u (steady_state v) f = same_value v (pos (T + 1)) (declared_below M v f.0)

  -- so has a term
  same_term : AllStand → (t : ℕ) → 1 ≤ t → t ≤ T → (e : Term) → AllLeaves (IsFit M) e → IsSameAt M T b q t e
  same_term h t l u e f =
      val-with_leaves (short_leaf (stand_in_of M)) (extended_environment M T b q) (source_environment M T b q) (pos t) (pos t) e
      (all_leaves (IsFit M) (IsSameLeaf (short_leaf (stand_in_of M)) (extended_environment M T b q) (pos t) (source_environment M T b q) (pos t)) (same_leaf h t l u) e f)

  -- so have the sides of each equation
  abbrev pub SameSides : ℕ → Equation → Type 0
  SameSides t e = IsSameAt M T b q t e.left × IsSameAt M T b q t e.right

  pub same_sides : IsClosed M → AllStand → (t : ℕ) → 1 ≤ t → t ≤ T → Each (SameSides t) M.equations
  same_sides c h t l u =
      each_both (AllEquationLeaves (IsFit M)) (AllEquationLeaves (IsFit M)) (SameSides t)
      (λ e f _. (same_term h t l u e.left f.0, same_term h t l u e.right f.1))
      M.equations (each_fits M c) (each_fits M c)
