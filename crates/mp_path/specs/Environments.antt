-- What a grid is to a model.
use Rattle.std.specs.Prelude.{◌≡◌, ℕ, ℤ, pos, length, map, slice_get, Bool, ◌&&◌, not, None, unwrap_or, if◌then◌else◌, IsSome, IsTrue}
use Rattle.mp_fix.specs.Enclosure.{number_of}
use Rattle.mp_semantics.specs.Term.{Variable, endogenous, exogenous}
use Rattle.mp_semantics.specs.Value.{Environment}
use Rattle.mp_semantics.specs.Model.{Model, Parameter, is_declared}
use Rattle.mp_semantics.specs.Solves.{Path, is_inside, is_near}
use Rattle.mp_path.specs.Edges.{Edges, edge_of, parameter_of}
use Rattle.mp_path.specs.Points.{Points, units_at, IsFilled}

-- whether a variable has a value beside a path over so many periods
abbrev pub is_beside : ℕ → Variable → ℤ → Bool
is_beside T (endogenous v) t = is_near T t && not (is_inside T t)
is_beside T (exogenous v) t = is_near T t

-- the edges have the model's parameter values, and all its variables
pub record AreEdgesOf (M : Model) (b : Edges) : Type 0 where
  pub parameters : (p : ℕ) → parameter_of b p ≡ slice_get (map (λ (a : Parameter). a.value) M.parameters) p
  pub values : (x : Variable) (t : ℤ) → IsTrue (is_declared M x) → IsTrue (is_beside b.periods x t) → IsSome (edge_of b x t)

-- the grid has a slot for each endogenous variable of the model, each with a number in each period
pub record IsGridOf (M : Model) (g : Points) : Type 0 where
  pub edges : AreEdgesOf M g.edges
  pub slots : g.slots ≡ length M.endogenous_names
  pub filled : IsFilled g

-- the numbers of the slots, as fractions
abbrev pub path_of : Points → Path
path_of g v t = number_of (unwrap_or (units_at g v t) (pos 0))

-- the same with the model's own variables alone
abbrev pub declared_part : Model → Environment → Environment
declared_part M env = record {
  value = λ x t. if is_declared M x then (env.value x t) else None;
  parameter_value = env.parameter_value;
  terminal = env.terminal;
}
