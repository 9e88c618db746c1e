-- How many operations the derivatives of a term have.
use Rattle.std.specs.Prelude.{ℕ, List}
use Rattle.std.specs.List.{sum_by}
use Rattle.mp_expr.specs.Size.{count_of}
use Rattle.mp_semantics.specs.Term.{Term}
use Rattle.mp_slopes.specs.Derivative.{derivative_of}
use Rattle.mp_slopes.specs.Places.{Place, places}

-- those by these places
abbrev pub operations_by : Term → List Place → ℕ
operations_by t ps = sum_by (λ (p : Place). count_of (derivative_of t p.x p.shift)) ps

-- those by each place that occurs in it
abbrev pub all_operations : Term → ℕ
all_operations t = operations_by t (places t)
