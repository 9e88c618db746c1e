-- How high and how large the equations of a model are.
use Rattle.std.specs.Prelude.{ℕ, max, List, [], ◌∷◌, map, sum, slice_index}
use Rattle.std.specs.List.{flat_map}
use Rattle.mp_semantics.specs.Term.{Term}
use Rattle.mp_semantics.specs.Model as m
use Rattle.mp_expr.specs.Size.{height_of, count_of}
use Rattle.mp_model_data.specs.Shown.{Sides}

-- the sides of all equations
abbrev pub sides_of : List m.Equation → List Term
sides_of xs = flat_map (λ x. x.left ∷ x.right ∷ []) xs

-- the greatest of these, or 0
abbrev pub greatest : List ℕ → ℕ
greatest [] = 0
greatest (n ∷ ns) = max n (greatest ns)

-- the greatest height of a side
abbrev pub greatest_height : m.Model → ℕ
greatest_height M = greatest (map height_of (sides_of M.equations))

-- the operations in all sides
abbrev pub operations : m.Model → ℕ
operations M = sum (map count_of (sides_of M.equations))

-- what a table by the numbers of nodes has for the sides of equations
abbrev pub side_rows : List ℕ → List Sides → List ℕ
side_rows rows xs = flat_map (λ x. slice_index rows x.left ∷ slice_index rows x.right ∷ []) xs
