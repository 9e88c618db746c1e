-- What auxiliaries stand for, in a path and at its boundary.
use Rattle.std.specs.Prelude.{◌≡◌, ℕ, ℤ, pos, ◌+◌, ◌-◌, ◌≤◌, nat_lt, if◌then◌else◌, Option, Some, None, slice_get, ◌+ℤ◌}
use Rattle.std.specs.List.{AllByRecursion}
use Rattle.std.specs.Ordering.{int_eq}
use Rattle.mp_rational.specs.Fraction.{Fraction}
use Rattle.mp_semantics.specs.Term.{endogenous, exogenous}
use Rattle.mp_semantics.specs.Value.{Environment}
use Rattle.mp_semantics.specs.Model.{Model}
use Rattle.mp_semantics.specs.Solves.{Path, Boundary, Edge, given, environment}
use Rattle.mp_solutions.specs.Auxiliaries.{Direction, lead, lag, width, Auxiliary, own_shift, own_place, auxiliaries_of}
use Rattle.mp_solutions.specs.Transformed.{transformed}

-- the first period past the horizon that way
abbrev pub rim : ℕ → Direction → ℤ
rim T lead = pos (T + 1)
rim T lag = pos 0

-- at its rim an auxiliary is its variable, so many periods away; elsewhere it has no value
abbrev pub auxiliary_edge : ℕ → Boundary → Option Auxiliary → ℤ → Option Fraction
auxiliary_edge T b None t = None
auxiliary_edge T b (Some a) t =
    if int_eq t (rim T a.direction) then given T b (endogenous a.place) (t +ℤ own_shift a) else None

-- the boundary, and each auxiliary at its rim
abbrev pub extended_boundary : Model → ℕ → Boundary → Edge
extended_boundary M T b (endogenous i) t =
    if nat_lt i (width M) then given T b (endogenous i) t else auxiliary_edge T b (slice_get (auxiliaries_of M) (i - width M)) t
extended_boundary M T b (exogenous i) t = given T b (exogenous i) t

-- the source model under a path, of which it reads its own variables alone
abbrev pub source_environment : Model → ℕ → Boundary → Path → Environment
source_environment M T b q = environment M T (given T b) q

-- the transformed model under a path over its variables, with the extended boundary
abbrev pub extended_environment : Model → ℕ → Boundary → Path → Environment
extended_environment M T b q = environment (transformed M) T (extended_boundary M T b) q

-- in each period 1 to T the path has for the auxiliary its variable's value, so many periods away
abbrev pub HasShiftedValue : Model → ℕ → Boundary → Path → Auxiliary → Type 0
HasShiftedValue M T b q a =
    (t : ℕ) → 1 ≤ t → t ≤ T
    → (source_environment M T b q).value (endogenous a.place) (pos t +ℤ own_shift a) ≡ Some (q (own_place M a) (pos t))

-- so it has for each
abbrev pub HasShiftedValues : Model → ℕ → Boundary → Path → Type 0
HasShiftedValues M T b q = AllByRecursion (HasShiftedValue M T b q) (auxiliaries_of M)

-- at its rim the edge has for the auxiliary the boundary's value of its variable, so many periods away
abbrev pub HasRim : Model → ℕ → Boundary → Edge → Auxiliary → Type 0
HasRim M T b edge a =
    edge (endogenous (own_place M a)) (rim T a.direction) ≡ given T b (endogenous a.place) (rim T a.direction +ℤ own_shift a)

-- so it has for each
abbrev pub HasRims : Model → ℕ → Boundary → Edge → Type 0
HasRims M T b edge = AllByRecursion (HasRim M T b edge) (auxiliaries_of M)
