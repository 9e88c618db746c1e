-- How many operations the derivatives of residuals have.
use Rattle.std.proofs.Common.{◌≡◌, ℕ, suc, ◌+◌, ◌≤◌, List, [], ◌∷◌, ◌++◌, map, refl, arith}
use Rattle.std.specs.List.{sum_by}
use Rattle.std.proofs.lemmas.List.Sums.{sum_by-cons}
use Rattle.mp_expr.specs.Size.{count_of}
use Rattle.mp_semantics.specs.Term.{Term}
use Rattle.mp_slopes.specs.Derivative.{derivative_of}
use Rattle.mp_slopes.specs.Places.{Place, places}
use Rattle.mp_derivatives.specs.Bound.{bound_of}
use Rattle.mp_derivatives.specs.Derivatives.{Derivative, derivatives_of, operations}
use Rattle.mp_derive.specs.Counted.{operations_by, all_operations}
use Rattle.mp_derive.specs.Listed.{derivative_by, derivatives_by}

operations-append : (ds es : List Derivative) → operations (ds ++ es) ≡ operations ds + operations es
operations-append [] es = omega arith
operations-append (d ∷ ds) es = omega (arith, operations-append ds es)

operations_at : (i : ℕ) (t : Term) (ps : List Place) → operations (map (derivative_by i t) ps) ≡ operations_by t ps
operations_at i t [] = refl
operations_at i t (p ∷ ps) = omega (arith, operations_at i t ps, sum_by-cons (λ (q : Place). count_of (derivative_of t q.x q.shift)) p ps)

pub operations_are : (i : ℕ) (ts : List Term) → operations (derivatives_by i ts) ≡ sum_by all_operations ts
operations_are i [] = refl
operations_are i (t ∷ ts) =
    omega (arith, operations-append (derivatives_of i t) (derivatives_by (suc i) ts), operations_at i t (places t), operations_are (suc i) ts, sum_by-cons all_operations t ts)

-- they are no more than their bounds
pub at_most : ((i : ℕ) (t : Term) → operations (derivatives_of i t) ≤ bound_of t) → (ts : List Term) → sum_by all_operations ts ≤ sum_by bound_of ts
at_most law [] = omega arith
at_most law (t ∷ ts) =
    omega (arith, law 1 t, operations_at 1 t (places t), at_most law ts, sum_by-cons all_operations t ts, sum_by-cons bound_of t ts)
