-- What the transformed model has.
use Rattle.std.proofs.Common.{◌≡◌, ℕ, suc, zero, ℤ, pos, negsuc, ◌+◌, ◌<◌, ◌≤◌, Bool, true, false, cond, IsTrue, ◌==◌, List, [], ◌++◌, map, length, refl, ap, sym, ◌∙◌, subst, arith, append-nil, inl, inr}
use Rattle.std.specs.List.{AllByRecursion as Each}
use Rattle.std.proofs.lemmas.List.{length-append, length-map}
use Rattle.mp_semantics.specs.Term.{Leaf, number, parameter, variable, steady_state, Term, endogenous, exogenous}
use Rattle.mp_semantics.specs.Model.{Model, Equation, is_declared}
use Rattle.mp_semantics.specs.Shifted.{with_leaves}
use Rattle.mp_solutions.specs.Leaves.{AllLeaves, AllEquationLeaves, AllModelLeaves}
use Rattle.mp_solutions.specs.Auxiliaries.{Direction, lead, lag, shift_by, distance, width, leaf_shift, Auxiliary, Lengths, lengths, auxiliaries, auxiliaries_of, stand_in_of, auxiliary_name}
use Rattle.mp_solutions.specs.Transformed.{short_leaf, short_equation, auxiliary_equation, transformed}
use Rattle.mp_solutions.specs.Laws.{IsDeclaredLeaf, IsClosed, IsShort, tags, no_tags, KeepsTags}
use Rattle.mp_solutions.proofs.Lists.{each_append, each_map, each_of, each_all, map_same, map_alike, take_front, drop_front}
use Rattle.mp_solutions.proofs.Leaves.{all_leaves, each_leaf, leaves_with, with_same_leaves, equations_shift-le}
use Rattle.mp_solutions.proofs.Numbering.{each_auxiliary}
use Rattle.mp_solutions.proofs.Values.{own, declared_below, below_declared, stand_in_below, IsFit, each_fits}
use Rattle.mp_solutions.proofs.Solutions.{short_ones, own_ones}

pub equations_count : (M : Model) → length (transformed M).equations ≡ length M.equations + length (auxiliaries_of M)
equations_count M =
    length-append (short_ones M M.equations) (own_ones M)
    ∙ ap (λ n. n + length (own_ones M)) (length-map M.equations (short_equation (stand_in_of M)))
    ∙ ap (λ n. length M.equations + n) (length-map (auxiliaries_of M) (auxiliary_equation (stand_in_of M)))

pub keeps_tags : (M : Model) → KeepsTags M
keeps_tags M = (
  ap (map tags) (take_front (short_equation (stand_in_of M)) M.equations (own_ones M)) ∙ map_alike (short_equation (stand_in_of M)) tags (λ e. refl) M.equations,
  subst (Each (λ (e : Equation). tags e ≡ no_tags)) (sym (drop_front (short_equation (stand_in_of M)) M.equations (own_ones M)))
      (each_map (λ (e : Equation). tags e ≡ no_tags) (auxiliary_equation (stand_in_of M)) (auxiliaries_of M) (each_all (λ (a : Auxiliary). tags (auxiliary_equation (stand_in_of M) a) ≡ no_tags) (auxiliaries_of M) (λ a. refl))),
)

-- what holds of the short form of each leaf, and of the leaves of the auxiliaries' equations, holds throughout the transformed model
pub transformed_leaves : (M : Model) (F Q : Leaf → Type 0) → Each (AllEquationLeaves F) M.equations
    → ((l : Leaf) → F l → Q (short_leaf (stand_in_of M) l))
    → ((v : ℕ) (d : Direction) (k : ℕ) → v < width M → k < lengths M d v
    → Q (variable (endogenous (stand_in_of M v d (suc k))) (pos 0)) × Q (variable (endogenous (stand_in_of M v d k)) (shift_by d 1)))
    → AllModelLeaves Q (transformed M)
transformed_leaves M F Q h g k =
    each_append (AllEquationLeaves Q) (short_ones M M.equations) (own_ones M)
    (each_map (AllEquationLeaves Q) (short_equation (stand_in_of M)) M.equations
    (each_of (AllEquationLeaves F) (λ e. AllEquationLeaves Q (short_equation (stand_in_of M) e)) (λ e f. (side e.left f.0, side e.right f.1)) M.equations h))
    (each_map (AllEquationLeaves Q) (auxiliary_equation (stand_in_of M)) (auxiliaries_of M)
    (each_auxiliary (λ (a : Auxiliary). AllEquationLeaves Q (auxiliary_equation (stand_in_of M) a)) (lengths M) (width M) (λ v d j below near. k v d j below near)))
  where
    side : (e : Term) → AllLeaves F e → AllLeaves Q (with_leaves (short_leaf (stand_in_of M)) e)
    side e f = leaves_with Q (short_leaf (stand_in_of M)) e (all_leaves F (λ l. Q (short_leaf (stand_in_of M) l)) g e f)

-- ---- every endogenous shift is -1, 0 or 1

one_away : (d : Direction) (v : ℕ) → IsShort (variable (endogenous v) (shift_by d 1))
one_away lead v = inr (inr refl)
one_away lag v = inl refl

pub short_shifts : (M : Model) → AllModelLeaves IsShort (transformed M)
short_shifts M =
    transformed_leaves M (λ l. Unit {0}) IsShort
    (each_all (AllEquationLeaves (λ l. Unit {0})) M.equations (λ e. (each_leaf (λ l. Unit {0}) (λ l. tt) e.left, each_leaf (λ l. Unit {0}) (λ l. tt) e.right)))
    at (λ v d k below near. (inr (inl refl), one_away d (stand_in_of M v d k)))
  where
    at : (l : Leaf) → Unit {0} → IsShort (short_leaf (stand_in_of M) l)
    at (number m s) h = tt
    at (parameter p) h = tt
    at (variable (endogenous v) (pos zero)) h = inr (inl refl)
    at (variable (endogenous v) (pos (suc k))) h = inr (inr refl)
    at (variable (endogenous v) (negsuc k)) h = inl refl
    at (variable (exogenous v) k) h = tt
    at (steady_state v) h = tt

-- ---- it reads its own variables alone

pub transformed_closed : (M : Model) → IsClosed M → IsClosed (transformed M)
transformed_closed M c = transformed_leaves M (IsFit M) (IsDeclaredLeaf (transformed M)) (each_fits M c) at (λ v d k below near. (any v d (suc k) below near, any v d k below (omega arith)))
  where
    any : (v : ℕ) (d : Direction) (k : ℕ) → v < width M → k ≤ lengths M d v → IsTrue (is_declared (transformed M) (endogenous (stand_in_of M v d k)))
    any v d k h l = below_declared (transformed M) (stand_in_of M v d k) (stand_in_below M v d k h l)

    kept : (v : ℕ) → IsTrue (is_declared M (endogenous v)) → IsTrue (is_declared (transformed M) (endogenous v))
    kept v h = any v lead zero (declared_below M v h) (omega arith)

    at : (l : Leaf) → IsFit M l → IsDeclaredLeaf (transformed M) (short_leaf (stand_in_of M) l)
    at (number m s) f = tt
    at (parameter p) f = tt
    at (variable (endogenous v) (pos zero)) f = kept v f.0
    at (variable (endogenous v) (pos (suc k))) f = any v lead k (declared_below M v f.0) (let e = own lead v (pos (suc k)) _ (f.1 lead v) in omega arith)
    at (variable (endogenous v) (negsuc k)) f = any v lag k (declared_below M v f.0) (let e = own lag v (negsuc k) _ (f.1 lag v) in omega arith)
    at (variable (exogenous v) k) f = f.0
    at (steady_state v) f = kept v f.0

-- ---- with no shift beyond one nothing changes

one_at_most : (d : Direction) (v : ℕ) (l : Leaf) → IsShort l → leaf_shift d v l ≤ 1
one_at_most d v (number m s) h = omega arith
one_at_most d v (parameter p) h = omega arith
one_at_most d v (variable (endogenous u) k) h = by (u == v)
  where
    near : (d : Direction) (k : ℤ) → IsShort (variable (endogenous u) k) → distance d k ≤ 1
    near lead k (inl e) = subst (λ j. distance lead j ≤ 1) (sym e) (omega arith)
    near lead k (inr (inl e)) = subst (λ j. distance lead j ≤ 1) (sym e) (omega arith)
    near lead k (inr (inr e)) = subst (λ j. distance lead j ≤ 1) (sym e) (omega arith)
    near lag k (inl e) = subst (λ j. distance lag j ≤ 1) (sym e) (omega arith)
    near lag k (inr (inl e)) = subst (λ j. distance lag j ≤ 1) (sym e) (omega arith)
    near lag k (inr (inr e)) = subst (λ j. distance lag j ≤ 1) (sym e) (omega arith)

    by : (c : Bool) → cond c (distance d k) 0 ≤ 1
    by true = near d k h
    by false = omega arith
one_at_most d v (variable (exogenous u) k) h = omega arith
one_at_most d v (steady_state u) h = omega arith

no_auxiliaries : (len : Lengths) → ((d : Direction) (v : ℕ) → len d v ≡ 0) → (n : ℕ) → auxiliaries len n ≡ []
no_auxiliaries len h zero = refl
no_auxiliaries len h (suc v) = rw (no_auxiliaries len h v, h lead v, h lag v) refl

same_equation : (e : Equation) (x y : Term) → x ≡ e.left → y ≡ e.right
    → record { left = x; right = y; name = e.name; pair = e.pair; bind = e.bind; relax = e.relax } ≡ e
same_equation e x y p q = rw (p, q) refl

same_model : (M : Model) (names : List (List ℕ)) (es : List Equation) → names ≡ M.endogenous_names → es ≡ M.equations
    → record { endogenous_names = names; exogenous_names = M.exogenous_names; parameters = M.parameters; equations = es; constraints = M.constraints } ≡ M
same_model M names es p q = rw (p, q) refl

module _ (M : Model) (h : AllModelLeaves IsShort M) where
  no_length : (d : Direction) (v : ℕ) → lengths M d v ≡ 0
  no_length d v =
      let e = equations_shift-le d v 1 M.equations (each_of (AllEquationLeaves IsShort) (AllEquationLeaves (λ l. leaf_shift d v l ≤ 1)) (λ e f. (side d v e.left f.0, side d v e.right f.1)) M.equations h) in
      omega arith
    where
      side : (d : Direction) (v : ℕ) (e : Term) → AllLeaves IsShort e → AllLeaves (λ l. leaf_shift d v l ≤ 1) e
      side d v e f = all_leaves IsShort (λ l. leaf_shift d v l ≤ 1) (one_at_most d v) e f

  none : auxiliaries_of M ≡ []
  none = no_auxiliaries (lengths M) no_length (width M)

  same_leaf : (l : Leaf) → IsShort l → short_leaf (stand_in_of M) l ≡ l
  same_leaf (number m s) f = refl
  same_leaf (parameter p) f = refl
  same_leaf (variable (endogenous v) k) (inl e) = subst (λ j. short_leaf (stand_in_of M) (variable (endogenous v) j) ≡ variable (endogenous v) j) (sym e) refl
  same_leaf (variable (endogenous v) k) (inr (inl e)) = subst (λ j. short_leaf (stand_in_of M) (variable (endogenous v) j) ≡ variable (endogenous v) j) (sym e) refl
  same_leaf (variable (endogenous v) k) (inr (inr e)) = subst (λ j. short_leaf (stand_in_of M) (variable (endogenous v) j) ≡ variable (endogenous v) j) (sym e) refl
  same_leaf (variable (exogenous v) k) f = refl
  same_leaf (steady_state v) f = refl

  same_side : (e : Term) → AllLeaves IsShort e → with_leaves (short_leaf (stand_in_of M)) e ≡ e
  same_side e f = with_same_leaves (short_leaf (stand_in_of M)) e (all_leaves IsShort (λ l. short_leaf (stand_in_of M) l ≡ l) same_leaf e f)

  same_ones : short_ones M M.equations ≡ M.equations
  same_ones =
      map_same (short_equation (stand_in_of M)) M.equations
      (each_of (AllEquationLeaves IsShort) (λ e. short_equation (stand_in_of M) e ≡ e) (λ e f. same_equation e _ _ (same_side e.left f.0) (same_side e.right f.1)) M.equations h)

  pub unchanged : transformed M ≡ M
  unchanged =
      same_model M _ _
      (ap (λ xs. M.endogenous_names ++ map (auxiliary_name M.endogenous_names) xs) none ∙ append-nil M.endogenous_names)
      (ap (λ xs. short_ones M M.equations ++ map (auxiliary_equation (stand_in_of M)) xs) none ∙ append-nil (short_ones M M.equations) ∙ same_ones)

pub once : (M : Model) → transformed (transformed M) ≡ transformed M
once M = unchanged (transformed M) (short_shifts M)
