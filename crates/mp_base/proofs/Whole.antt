-- Whole numbers as fractions.
use Rattle.std.proofs.Common.{◌≡◌, ℕ, ℤ, pos, ◌%◌, arith, unsigned_abs}
use Rattle.std.proofs.lemmas.Int.{ints}
use Rattle.std.specs.Int.{IsGcd}
use Rattle.std.proofs.lemmas.Nat.Gcd.{IsGcd-from_zero, IsGcd-from_mod}
use Rattle.mp_base.specs.Fractions.{IsReduced}

lowest : (n : ℕ) → IsGcd n 1 1
lowest n =
    let e : n % 1 ≡ 0 = omega arith in
    IsGcd-from_mod n 1 1 (IsGcd-from_zero 1 (n % 1) e)

-- a whole number, as a fraction, is in lowest terms
pub whole_reduced : (n : ℤ) → IsReduced record { n = n; d = pos 1 }
whole_reduced n = record { positive = omega (arith, ints); lowest = lowest (unsigned_abs n) }
