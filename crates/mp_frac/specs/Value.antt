-- The fraction that a `Frac` is.
use Rattle.std.specs.Prelude.{Result, Ok, Err}
use Rattle.mp_rational.specs.Fraction.{Fraction, ratio_of}
use Rattle.mp_frac.specs.Stated.{Outcome}
use Rattle.mp_frac.specs.declared.fault.FracFault.{FracFault}
use Rattle.mp_frac.specs.declared.frac.Frac.{Frac}

-- numerator over denominator
abbrev pub value_of : Frac → Fraction
value_of f = ratio_of f.num f.den

-- the value of a `Frac`, or the fault
abbrev pub outcome_of : Result Frac FracFault → Outcome
outcome_of (Ok f) = Ok (value_of f)
outcome_of (Err e) = Err e
