-- Fractions as refusals report them.
use Rattle.std.specs.Prelude.{pos, ◌<ℤ◌, unsigned_abs}
use Rattle.std.specs.Int.{IsGcd}
use Rattle.mp_base.specs.declared.fraction.Ratio.{Ratio}

-- in lowest terms, with a positive denominator
pub record IsReduced (r : Ratio) : Type 0 where
  pub positive : pos 0 <ℤ r.d
  pub lowest : IsGcd (unsigned_abs r.n) (unsigned_abs r.d) 1
