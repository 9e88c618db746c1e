-- Dual numbers: what an expression is worth, and how fast that moves with one of its variables.
use Rattle.std.specs.Prelude.{◌==◌, ◌&&◌, ℕ, ℤ, pos, negsuc, zero, suc, Bool, false, if◌then◌else◌, Option, Some, None}
use Rattle.std.specs.Ordering.{int_eq}
use Rattle.mp_rational.specs.Fraction.{Fraction, add, sub, mul, neg, inv, is_zero, less, nought, one}
use Rattle.mp_semantics.specs.Term.{Variable, endogenous, exogenous, Leaf, number, parameter, variable, steady_state, Binary, plus, minus, times, quotient, least, greatest, Term, leaf, negative, binary, power_of, pick}
use Rattle.mp_semantics.specs.Value.{Environment, of_one, of_both, leaf_value}

-- real + slope * eps, where eps * eps is 0
pub record Dual : Type 0 where
  pub real : Fraction
  pub slope : Fraction

abbrev pub constant : Fraction → Dual
constant x = record { real = x; slope = nought }

abbrev pub dual_neg : Dual → Dual
dual_neg x = record { real = neg x.real; slope = neg x.slope }

abbrev pub dual_add : Dual → Dual → Dual
dual_add x y = record { real = add x.real y.real; slope = add x.slope y.slope }

abbrev pub dual_sub : Dual → Dual → Dual
dual_sub x y = record { real = sub x.real y.real; slope = sub x.slope y.slope }

abbrev pub dual_mul : Dual → Dual → Dual
dual_mul x y = record { real = mul x.real y.real; slope = add (mul x.slope y.real) (mul x.real y.slope) }

-- 1 / (a + b * eps) is 1 / a - b / a^2 * eps
abbrev pub dual_inv : Dual → Dual
dual_inv x = record { real = inv x.real; slope = neg (mul x.slope (mul (inv x.real) (inv x.real))) }

-- none where the divisor's real part is 0
abbrev pub dual_div : Dual → Dual → Option Dual
dual_div x y = if is_zero y.real then None else Some (dual_mul x (dual_inv y))

abbrev pub dual_power_nat : Dual → ℕ → Dual
dual_power_nat x zero = constant one
dual_power_nat x (suc n) = dual_mul (dual_power_nat x n) x

-- with exponent 0 it is 1; a negative power of 0 is none
abbrev pub dual_power : Dual → ℤ → Option Dual
dual_power x (pos n) = Some (dual_power_nat x n)
dual_power x (negsuc n) = dual_div (constant one) (dual_power_nat x (suc n))

-- the one with the lesser real part; none where these are equal
abbrev pub dual_lesser : Dual → Dual → Option Dual
dual_lesser x y = if less x.real y.real then Some x else (if less y.real x.real then Some y else None)

-- the one with the greater real part; none where these are equal
abbrev pub dual_greater : Dual → Dual → Option Dual
dual_greater x y = if less x.real y.real then Some y else (if less y.real x.real then Some x else None)

abbrev pub dual_result : Binary → Dual → Dual → Option Dual
dual_result plus x y = Some (dual_add x y)
dual_result minus x y = Some (dual_sub x y)
dual_result times x y = Some (dual_mul x y)
dual_result quotient x y = dual_div x y
dual_result least x y = dual_lesser x y
dual_result greatest x y = dual_greater x y

abbrev pub is_variable : Variable → Variable → Bool
is_variable (endogenous m) (endogenous n) = m == n
is_variable (exogenous m) (exogenous n) = m == n
is_variable (endogenous m) (exogenous n) = false
is_variable (exogenous m) (endogenous n) = false

-- whether variable y of j periods later is variable v of k periods later
abbrev pub is_at : Variable → ℤ → Variable → ℤ → Bool
is_at v k y j = is_variable v y && int_eq k j

-- only variable v of k periods later moves with eps
abbrev pub leaf_slope : Variable → ℤ → Leaf → Fraction
leaf_slope v k (number m s) = nought
leaf_slope v k (parameter p) = nought
leaf_slope v k (variable y j) = if is_at v k y j then one else nought
leaf_slope v k (steady_state y) = nought

-- the dual number of an expression in period t, where variable v of k periods later carries eps and nothing else does; none where a part of it has no value then. It is not used for `pick`
abbrev pub dual : Term → Variable → ℤ → Environment → ℤ → Option Dual
dual (leaf l) v k env t = of_one (λ x. Some record { real = x; slope = leaf_slope v k l }) (leaf_value env t l)
dual (negative a) v k env t = of_one (λ x. Some (dual_neg x)) (dual a v k env t)
dual (binary op a b) v k env t = of_both (dual_result op) (dual a v k env t) (dual b v k env t)
dual (power_of a n) v k env t = of_one (λ x. dual_power x n) (dual a v k env t)
dual (pick a b c d) v k env t = None
