-- What a bound on derivatives needs of an expression, in numbers that stop at 10^9.
use Rattle.std.specs.Prelude.{◌≡◌, ◌^◌, ℕ, min}
use Rattle.mp_expr.specs.Size.{count_of}
use Rattle.mp_semantics.specs.Term.{Term}
use Rattle.mp_derivatives.specs.Bound.{variables_of, bound_of}
use Rattle.mp_derive.specs.declared.extent.Extent.{Extent}

abbrev pub capped : ℕ → ℕ
capped n = min n (10 ^ 9)

-- the extent of this expression
pub record IsExtent (t : Term) (x : Extent) : Type 0 where
  pub variables : x.variables ≡ capped (variables_of t)
  pub operations : x.operations ≡ capped (count_of t)
  pub bound : x.bound ≡ capped (bound_of t)
