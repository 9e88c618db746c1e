-- What each operation on fractions answers: the operation of arithmetic, or the fault of its rule. Overflow comes
-- exactly where a part that the rule states has a magnitude above the limit (modpath's own).
use Rattle.std.specs.Prelude.{ℕ, ℤ, pos, negsuc, suc, zero, ◌*◌, ◌/◌, ◌+ℤ◌, ◌*ℤ◌, List, [], ◌∷◌, nat_le, if◌then◌else◌, Option, Some, None, Result, Ok, Err}
use Rattle.std.specs.Int.RustNames.{unsigned_abs}
use Rattle.std.specs.List.{list_all}
use Rattle.mp_integer.specs.Gcd.{gcd}
use Rattle.mp_rational.specs.Fraction.{Fraction, add, mul, neg, div, whole, one}
use Rattle.mp_rational.specs.Lowest.{numerator, denominator}
use Rattle.mp_frac.specs.Limit.{limit}
use Rattle.mp_frac.specs.declared.fault.FracFault.{FracFault}
use Rattle.mp_frac.specs.declared.fault.FracFault.TheVariants.{Overflow, ZeroDivisor}

-- a fraction, or why there is none
abbrev pub Outcome : Type 0
Outcome = Result Fraction FracFault

-- x, unless the magnitude of a stated part is above the limit
abbrev pub unless_past : List ℕ → Fraction → Outcome
unless_past parts x = if list_all (λ n. nat_le n limit) parts then (Ok x) else (Err Overflow)

-- the magnitudes of the parts of x in lowest terms
abbrev pub lowest_parts : Fraction → List ℕ
lowest_parts x = unsigned_abs (numerator x) ∷ denominator x ∷ []

-- x, unless a part of it in lowest terms is above the limit
unfoldable pub reduced : Fraction → Outcome
reduced x = unless_past (lowest_parts x) x

-- what is reduced, or no quotient
abbrev pub reduced_quotient : Option Fraction → Outcome
reduced_quotient None = Err ZeroDivisor
reduced_quotient (Some x) = reduced x

-- n / d of whole numbers
unfoldable pub ratio_outcome : ℤ → ℤ → Outcome
ratio_outcome n d = reduced_quotient (div (whole n) (whole d))

-- the magnitudes of the stated parts of n / d + m / e: with g the greatest common divisor of d and e they are
-- n * (e / g), m * (d / g), the sum of these and d * (e / g), before the last reduction
abbrev pub stated_parts : ℤ → ℕ → ℤ → ℕ → List ℕ
stated_parts n d m e =
    let left = n *ℤ pos (e / gcd d e) in
    let right = m *ℤ pos (d / gcd d e) in
    unsigned_abs left ∷ unsigned_abs right ∷ unsigned_abs (left +ℤ right) ∷ d * (e / gcd d e) ∷ []

-- x + y
unfoldable pub sum_outcome : Fraction → Fraction → Outcome
sum_outcome x y = unless_past (stated_parts (numerator x) (denominator x) (numerator y) (denominator y)) (add x y)

-- x - y adds the negation
abbrev pub difference_outcome : Fraction → Fraction → Outcome
difference_outcome x y = sum_outcome x (neg y)

-- x * y, whose stated parts are those of the reduced product
abbrev pub product_outcome : Fraction → Fraction → Outcome
product_outcome x y = reduced (mul x y)

-- x / y multiplies by the reciprocal
unfoldable pub quotient_outcome : Fraction → Fraction → Outcome
quotient_outcome x y = reduced_quotient (div x y)

-- what follows a fraction, or the fault
abbrev pub after : Outcome → (Fraction → Outcome) → Outcome
after (Ok x) next = next x
after (Err e) next = Err e

-- x multiplied n times from the left, beginning with 1
unfoldable pub product_times : Fraction → ℕ → Outcome
product_times x zero = Ok one
product_times x (suc n) = after (product_times x n) (λ p. product_outcome p x)

-- x ^ k; with a negative exponent it is the reciprocal of the power by -k
unfoldable pub power_outcome : Fraction → ℤ → Outcome
power_outcome x (pos n) = product_times x n
power_outcome x (negsuc n) = after (product_times x (suc n)) (λ p. quotient_outcome one p)
