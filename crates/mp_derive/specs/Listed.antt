-- The derivatives of terms that are the residuals of equations.
use Rattle.std.specs.Prelude.{ℕ, suc, List, [], ◌∷◌, ◌++◌}
use Rattle.mp_semantics.specs.Term.{Term}
use Rattle.mp_slopes.specs.Derivative.{derivative_of}
use Rattle.mp_slopes.specs.Places.{Place}
use Rattle.mp_derivatives.specs.Derivatives.{Derivative, derivatives_of}

-- the derivative by a place, where this is the equation's number
abbrev pub derivative_by : ℕ → Term → Place → Derivative
derivative_by i t p = record { equation = i; place = p; term = derivative_of t p.x p.shift }

-- those of these residuals, where the equation of the first has this number
abbrev pub derivatives_by : ℕ → List Term → List Derivative
derivatives_by i [] = []
derivatives_by i (t ∷ ts) = derivatives_of i t ++ derivatives_by (suc i) ts
