-- Which variables occur in the equations of a static model, where no variable has a shift and a steady state is its variable
-- (modpath's own). Equations and variables go by their numbers from 0.
use Rattle.std.specs.Prelude.{◌≡◌, ◌<◌, ◌⊎◌, ℕ, List, [], length, slice_get, slice_index_or, Some}
use Rattle.mp_semantics.specs.Term.{Leaf, number, parameter, variable, endogenous, exogenous, steady_state, Term, leaf, negative, binary, power_of, pick}
use Rattle.mp_semantics.specs.Model.{Model, Equation, in_force}
use Rattle.mp_pairing.specs.Lists.{Has, IsRising}

-- the leaf is this endogenous variable, at any shift, or its steady state
abbrev pub IsOf : ℕ → Leaf → Type 0
IsOf v (number m s) = ⊥
IsOf v (parameter p) = ⊥
IsOf v (variable (endogenous x) k) = x ≡ v
IsOf v (variable (exogenous x) k) = ⊥
IsOf v (steady_state x) = x ≡ v

-- the variable stands in the static form of the expression
abbrev pub StandsIn : ℕ → Term → Type 0
StandsIn v (leaf l) = IsOf v l
StandsIn v (negative a) = StandsIn v a
StandsIn v (binary o a b) = StandsIn v a ⊎ StandsIn v b
StandsIn v (power_of a k) = StandsIn v a
StandsIn v (pick a b c d) = (StandsIn v a ⊎ StandsIn v b) ⊎ (StandsIn v c ⊎ StandsIn v d)

-- it stands in the equation's residual, which is the difference of its sides
abbrev pub OccursIn : ℕ → Equation → Type 0
OccursIn v e = StandsIn v e.left ⊎ StandsIn v e.right

-- the variables below n that occur in the equation, rising
pub record IsRow (n : ℕ) (e : Equation) (vs : List ℕ) : Type 0 where
  pub rising : IsRising vs
  pub only : (v : ℕ) → Has vs v → (v < n) × OccursIn v e
  pub each : (v : ℕ) → v < n → OccursIn v e → Has vs v

abbrev pub row_at : List (List ℕ) → ℕ → List ℕ
row_at rows e = slice_index_or rows e []

-- one row for each of these equations, in order
pub record AreRowsOf (n : ℕ) (es : List Equation) (rows : List (List ℕ)) : Type 0 where
  pub count : length rows ≡ length es
  pub each : (i : ℕ) (e : Equation) → slice_get es i ≡ Some e → IsRow n e (row_at rows i)

-- the rows of the equations in force in the reference regime, where no constraint binds
abbrev pub AreRows : Model → List (List ℕ) → Type 0
AreRows M rows = AreRowsOf (length M.endogenous_names) (in_force M []) rows

-- there are as many equations as endogenous variables
abbrev pub IsSquare : Model → Type 0
IsSquare M = length (in_force M []) ≡ length M.endogenous_names
