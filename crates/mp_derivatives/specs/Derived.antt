-- The records of a model's derivatives within the limit of their operations (modpath's own).
use Rattle.std.specs.Prelude.{ℕ, ◌^◌, List, min, nat_le, if◌then◌else◌, Result, Ok, Err}
use Rattle.std.specs.List.{AllByRecursion}
use Rattle.mp_semantics.specs.Model.{Model, Equation}
use Rattle.mp_slopes.specs.Derivative.{HasDerivative}
use Rattle.mp_derivatives.specs.Records.{Derivation}
use Rattle.mp_derivatives.specs.Derivatives.{derivatives, operations, derivations}

-- the records, or how many operations the derivatives have where these are too many; the count stops at 10^37
abbrev pub derived : Model → Result (List Derivation) ℕ
derived M =
    if nat_le (operations (derivatives M)) 2000000 then Ok (derivations M) else Err (min (operations (derivatives M)) (10 ^ 37))

-- both sides have derivatives
abbrev pub SidesHaveDerivatives : Equation → Type 0
SidesHaveDerivatives e = HasDerivative e.left × HasDerivative e.right

-- so have those of each equation
abbrev pub HaveDerivatives : Model → Type 0
HaveDerivatives M = AllByRecursion SidesHaveDerivatives M.equations
