-- A small model, and its transformed model: `x = x(-3) + y(+3)` and `y = x`.
use Rattle.std.specs.Prelude.{ℕ, ℤ, pos, negsuc, Some, None, List, [], ◌∷◌, codes}
use Rattle.mp_semantics.specs.Term.{Term, endogenous, exogenous, variable, steady_state, plus, minus, times, leaf, binary}
use Rattle.mp_semantics.specs.Model.{Model, Equation}

-- an endogenous variable, so many periods later
abbrev pub at : ℕ → ℤ → Term
at v k = leaf (variable (endogenous v) k)

-- an equation with no tags
abbrev pub plain : Term → Term → Equation
plain a b = record { left = a; right = b; name = None; pair = None; bind = []; relax = [] }

-- these variables with these equations alone
abbrev pub model_with : List (List ℕ) → List Equation → Model
model_with names es = record { endogenous_names = names; exogenous_names = []; parameters = []; equations = es; constraints = [] }

-- x is 0, and y is 1
abbrev pub source_model : Model
source_model =
    model_with (codes "x" ∷ codes "y" ∷ [])
    (plain (at 0 (pos 0)) (binary plus (at 0 (negsuc 2)) (at 1 (pos 3))) ∷ plain (at 1 (pos 0)) (at 0 (pos 0)) ∷ [])

-- x is 0, y is 1, AUX_LAG_x_1 is 2 and so on
abbrev pub transformed_model : Model
transformed_model =
    model_with
    (codes "x" ∷ codes "y" ∷ codes "AUX_LAG_x_1" ∷ codes "AUX_LAG_x_2" ∷ codes "AUX_LEAD_y_1" ∷ codes "AUX_LEAD_y_2" ∷ [])
    (plain (at 0 (pos 0)) (binary plus (at 3 (negsuc 0)) (at 5 (pos 1)))
    ∷ plain (at 1 (pos 0)) (at 0 (pos 0))
    ∷ plain (at 2 (pos 0)) (at 0 (negsuc 0))
    ∷ plain (at 3 (pos 0)) (at 2 (negsuc 0))
    ∷ plain (at 4 (pos 0)) (at 1 (pos 1))
    ∷ plain (at 5 (pos 0)) (at 4 (pos 1))
    ∷ [])

-- a shift within one, an exogenous one and a steady state stay, and so does a name: `[name='a'] x(+1) = x(-2) * x(+2) - e(-4)` and `e = steady_state(x)`
abbrev pub mixed_model : Model
mixed_model = record {
  endogenous_names = codes "x" ∷ [];
  exogenous_names = codes "e" ∷ [];
  parameters = [];
  equations =
      record { left = at 0 (pos 1); right = binary minus (binary times (at 0 (negsuc 1)) (at 0 (pos 2))) (leaf (variable (exogenous 0) (negsuc 3))); name = Some (codes "a"); pair = None; bind = []; relax = [] }
      ∷ plain (leaf (variable (exogenous 0) (pos 0))) (leaf (steady_state 0))
      ∷ [];
  constraints = [];
}

-- x is 0, AUX_LEAD_x_1 is 1, and AUX_LAG_x_1 is 2
abbrev pub mixed_transformed : Model
mixed_transformed = record {
  endogenous_names = codes "x" ∷ codes "AUX_LEAD_x_1" ∷ codes "AUX_LAG_x_1" ∷ [];
  exogenous_names = codes "e" ∷ [];
  parameters = [];
  equations =
      record { left = at 0 (pos 1); right = binary minus (binary times (at 2 (negsuc 0)) (at 1 (pos 1))) (leaf (variable (exogenous 0) (negsuc 3))); name = Some (codes "a"); pair = None; bind = []; relax = [] }
      ∷ plain (leaf (variable (exogenous 0) (pos 0))) (leaf (steady_state 0))
      ∷ plain (at 1 (pos 0)) (at 0 (pos 1))
      ∷ plain (at 2 (pos 0)) (at 0 (negsuc 0))
      ∷ [];
  constraints = [];
}
