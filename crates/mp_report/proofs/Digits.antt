-- The digits of a whole number.
use Rattle.std.proofs.Common.{◌≡◌, ℕ, ℤ, pos, negsuc, suc, w16, FitsSigned, ◌∷◌, ap, arith}
use Rattle.std.specs.Fmt.{signed_decimal}
use Rattle.mp_solutions.proofs.Digits.{decimal_of_any_size}
use Rattle.mp_derivatives.specs.Records.{whole_digits}

pub whole_of_any_size : (k : ℤ) → FitsSigned w16 k → signed_decimal k ≡ whole_digits k
whole_of_any_size (pos n) fits = decimal_of_any_size n (omega arith)
whole_of_any_size (negsuc n) fits = ap (λ l. 45 ∷ l) (decimal_of_any_size (suc n) (omega arith))
