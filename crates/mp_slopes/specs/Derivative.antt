-- The derivative of an expression, as an expression.
use Rattle.std.specs.Prelude.{◌≤ℤ◌, ◌-ℤ◌, ◌==◌, ◌&&◌, ℕ, ℤ, pos, negsuc, zero, suc, Bool, false, if◌then◌else◌, Option, Some, None}
use Rattle.std.specs.Ordering.{int_eq}
use Rattle.mp_semantics.specs.Term.{Variable, Leaf, number, parameter, variable, steady_state, Binary, plus, minus, times, quotient, least, greatest, Term, leaf, negative, binary, power_of, pick}
use Rattle.mp_slopes.specs.Dual.{is_at}

-- the expression that is the whole number n
abbrev pub whole_term : ℕ → Term
whole_term n = leaf (number n 0)

abbrev pub is_number : ℕ → Leaf → Bool
is_number n (number m s) = (m == n) && (s == 0)
is_number n (parameter p) = false
is_number n (variable y j) = false
is_number n (steady_state y) = false

-- whether it is the whole number n, as `whole_term` writes it
abbrev pub is_whole : ℕ → Term → Bool
is_whole n (leaf l) = is_number n l
is_whole n (negative a) = false
is_whole n (binary op a b) = false
is_whole n (power_of a k) = false
is_whole n (pick a b c d) = false

-- what a negation negates
abbrev pub negated : Term → Option Term
negated (leaf l) = None
negated (negative a) = Some a
negated (binary op a b) = None
negated (power_of a k) = None
negated (pick a b c d) = None

abbrev pub negative_or : Term → Option Term → Term
negative_or a None = negative a
negative_or a (Some b) = b

-- the operators, with what is plain to see left out: in a row the first case that fits
abbrev pub simple_negative : Term → Term
simple_negative a = if is_whole 0 a then whole_term 0 else negative_or a (negated a)

abbrev pub simple_plus : Term → Term → Term
simple_plus a b = if is_whole 0 a then b else (if is_whole 0 b then a else binary plus a b)

abbrev pub simple_minus : Term → Term → Term
simple_minus a b = if is_whole 0 b then a else (if is_whole 0 a then simple_negative b else binary minus a b)

abbrev pub simple_times : Term → Term → Term
simple_times a b =
    if is_whole 0 a then whole_term 0 else (if is_whole 0 b then whole_term 0 else (if is_whole 1 a then b else (if is_whole 1 b then a else binary times a b)))

abbrev pub simple_quotient : Term → Term → Term
simple_quotient a b = if is_whole 0 a then whole_term 0 else binary quotient a b

abbrev pub simple_power : Term → ℤ → Term
simple_power a (pos zero) = whole_term 1
simple_power a (pos (suc zero)) = a
simple_power a (pos (suc (suc n))) = power_of a (pos (suc (suc n)))
simple_power a (negsuc n) = power_of a (negsuc n)

abbrev pub simple_pick : Term → Term → Term → Term → Term
simple_pick a b c d = if is_whole 0 c && is_whole 0 d then whole_term 0 else pick a b c d

-- the expression that is the whole number k; one below 0 is a negation
abbrev pub signed_term : ℤ → Term
signed_term (pos n) = whole_term n
signed_term (negsuc n) = negative (whole_term (suc n))

-- in the period that is asked, a variable moves with itself alone
abbrev pub leaf_derivative : Leaf → Variable → ℤ → Term
leaf_derivative (number m s) v k = whole_term 0
leaf_derivative (parameter p) v k = whole_term 0
leaf_derivative (variable y j) v k = if is_at v k y j then whole_term 1 else whole_term 0
leaf_derivative (steady_state y) v k = whole_term 0

-- of a * b, with the derivatives of a and of b
abbrev pub product_derivative : Term → Term → Term → Term → Term
product_derivative a b da db = simple_plus (simple_times da b) (simple_times a db)

-- of a / b
abbrev pub quotient_derivative : Term → Term → Term → Term → Term
quotient_derivative a b da db =
    simple_minus (simple_quotient da b) (simple_quotient (simple_times a db) (simple_power b (pos 2)))

abbrev pub binary_derivative : Binary → Term → Term → Term → Term → Term
binary_derivative plus a b da db = simple_plus da db
binary_derivative minus a b da db = simple_minus da db
binary_derivative times a b da db = product_derivative a b da db
binary_derivative quotient a b da db = quotient_derivative a b da db
binary_derivative least a b da db = simple_pick a b da db
binary_derivative greatest a b da db = simple_pick b a da db

-- of a^n, with the derivative of a
abbrev pub power_derivative : Term → ℤ → Term → Term
power_derivative a n da =
    if int_eq n (pos 0) then whole_term 0 else simple_times (simple_times (signed_term n) (simple_power a (n -ℤ pos 1))) da

-- the derivative by variable v of k periods later, with 0 for `pick`, whose derivative is never asked for
abbrev pub derivative_of : Term → Variable → ℤ → Term
derivative_of (leaf l) v k = leaf_derivative l v k
derivative_of (negative a) v k = simple_negative (derivative_of a v k)
derivative_of (binary op a b) v k = binary_derivative op a b (derivative_of a v k) (derivative_of b v k)
derivative_of (power_of a n) v k = power_derivative a n (derivative_of a v k)
derivative_of (pick a b c d) v k = whole_term 0

-- it has no `pick`, and its exponents are from -16 to 16
abbrev pub HasDerivative : Term → Type 0
HasDerivative (leaf l) = Unit {0}
HasDerivative (negative a) = HasDerivative a
HasDerivative (binary op a b) = HasDerivative a × HasDerivative b
HasDerivative (power_of a n) = HasDerivative a × (negsuc 15 ≤ℤ n) × (n ≤ℤ pos 16)
HasDerivative (pick a b c d) = ⊥
