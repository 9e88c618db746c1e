-- Fractions as refusals report them: numerator and denominator in lowest terms.
use Rattle.std.specs.Prelude.{pos, unsigned_abs}
use Rattle.mp_base.specs.declared.fraction.Ratio.{Ratio}
use Rattle.mp_rational.specs.Fraction.{Fraction, ratio_of}
use Rattle.mp_rational.specs.Lowest.{numerator, denominator}

-- the report of a fraction
abbrev pub ratio_told : Fraction → Ratio
ratio_told x = record { n = numerator x; d = pos (denominator x) }

-- the fraction n / d
abbrev pub fraction_of : Ratio → Fraction
fraction_of r = ratio_of r.n (unsigned_abs r.d)
