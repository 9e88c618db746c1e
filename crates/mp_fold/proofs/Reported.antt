-- Reports of fractions, and the fractions that they stand for.
use Rattle.std.proofs.Common.{◌≡◌, ℤ, pos, negsuc, arith, refl}
use Rattle.std.specs.Prelude.{◌<ℤ◌}
use Rattle.std.specs.Int.RustNames.{unsigned_abs}
use Rattle.std.proofs.lemmas.Int.{ints}
use Rattle.std.specs.Int.{IsGcd}
use Rattle.mp_base.specs.declared.fraction.Ratio.{Ratio}
use Rattle.mp_base.specs.Fractions.{IsReduced}
use Rattle.mp_rational.specs.Fraction.{Fraction, ratio_of}
use Rattle.mp_rational.specs.Lowest.{numerator, denominator}
use Rattle.mp_rational.proofs.Lowest.{numerator-ratio_of, denominator-ratio_of, ratio_of-parts}
use Rattle.mp_fold.specs.Reported.{ratio_told, fraction_of}

-- parts in lowest terms stand for the fraction
pub parts_stand : (x : Fraction) (r : Ratio) → r.n ≡ numerator x → r.d ≡ pos (denominator x) → fraction_of r ≡ x
parts_stand x r top bottom = rw (top, bottom) (ratio_of-parts x)

told_at : (n d : ℤ) → pos 0 <ℤ d → IsGcd (unsigned_abs n) (unsigned_abs d) 1 → ratio_told (ratio_of n (unsigned_abs d)) ≡ record { n = n; d = d }
told_at n (pos d) p h = rw (numerator-ratio_of n d (omega (arith, ints, p)) h, denominator-ratio_of n d (omega (arith, ints, p)) h) refl
told_at n (negsuc d) p h = absurd (omega (arith, ints, p))

-- the report of what a report stands for
pub told_again : (r : Ratio) → IsReduced r → ratio_told (fraction_of r) ≡ r
told_again r is = told_at r.n r.d is.positive is.lowest
