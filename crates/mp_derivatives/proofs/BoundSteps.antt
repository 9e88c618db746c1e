-- How many operations the table of derivatives adds to those of the operands' derivatives.
use Rattle.std.proofs.Common.{◌≡◌, ℕ, zero, suc, ◌+◌, ◌*◌, ◌≤◌, min, ℤ, pos, negsuc, ◌-ℤ◌, Bool, true, false, cond, ◌&&◌, refl, sym, subst, arith}
use Rattle.std.proofs.Math.Nat.{mul-le-mul_right}
use Rattle.std.specs.Ordering.{int_eq}
use Rattle.mp_expr.specs.Size.{count_of}
use Rattle.mp_semantics.specs.Term.{Binary, plus, minus, times, quotient, least, greatest, Term, leaf, negative, binary, power_of, pick}
use Rattle.mp_slopes.specs.Derivative.{whole_term, is_number, is_whole, simple_negative, simple_plus, simple_minus, simple_times, simple_quotient, simple_power, simple_pick, signed_term, binary_derivative, power_derivative}
use Rattle.mp_derivatives.specs.Bound.{binary_bound}

-- ---- the operators

cond_most : (p : Bool) (t u : Term) (n : ℕ) → count_of t ≤ n → count_of u ≤ n → count_of (cond p t u) ≤ n
cond_most true t u n h k = h
cond_most false t u n h k = k

negative_most : (t : Term) → count_of (simple_negative t) ≤ count_of t + 1
negative_most (leaf l) = cond_most (is_number 0 l) (whole_term 0) (negative (leaf l)) 1 (omega arith) (omega arith)
negative_most (negative a) = omega arith
negative_most (binary op a b) = omega arith
negative_most (power_of a k) = omega arith
negative_most (pick a b c d) = omega arith

plus_most : (t u : Term) → count_of (simple_plus t u) ≤ count_of t + count_of u + 1
plus_most t u = cond_most (is_whole 0 t) u _ _ (omega arith) (cond_most (is_whole 0 u) t (binary plus t u) _ (omega arith) (omega arith))

minus_most : (t u : Term) → count_of (simple_minus t u) ≤ count_of t + count_of u + 1
minus_most t u =
    cond_most (is_whole 0 u) t _ _ (omega arith) (cond_most (is_whole 0 t) (simple_negative u) (binary minus t u) _ (omega (arith, negative_most u)) (omega arith))

times_most : (t u : Term) → count_of (simple_times t u) ≤ count_of t + count_of u + 1
times_most t u =
    cond_most (is_whole 0 t) (whole_term 0) _ _ (omega arith)
    (cond_most (is_whole 0 u) (whole_term 0) _ _ (omega arith) (cond_most (is_whole 1 t) u _ _ (omega arith) (cond_most (is_whole 1 u) t (binary times t u) _ (omega arith) (omega arith))))

quotient_most : (t u : Term) → count_of (simple_quotient t u) ≤ count_of t + count_of u + 1
quotient_most t u = cond_most (is_whole 0 t) (whole_term 0) (binary quotient t u) _ (omega arith) (omega arith)

power_most : (t : Term) (k : ℤ) → count_of (simple_power t k) ≤ count_of t + 1
power_most t (pos zero) = omega arith
power_most t (pos (suc zero)) = omega arith
power_most t (pos (suc (suc m))) = omega arith
power_most t (negsuc m) = omega arith

pick_most : (t u v w : Term) → count_of (simple_pick t u v w) ≤ count_of t + count_of u + count_of v + count_of w + 1
pick_most t u v w = cond_most (is_whole 0 v && is_whole 0 w) (whole_term 0) (pick t u v w) _ (omega arith) (omega arith)

signed_most : (k : ℤ) → count_of (signed_term k) ≤ 1
signed_most (pos n) = omega arith
signed_most (negsuc n) = omega arith

-- ---- operands that are 0

same_cond : (p : Bool) (t : Term) → cond p t t ≡ t
same_cond true t = refl
same_cond false t = refl

pub times_zero : (t : Term) → simple_times t (whole_term 0) ≡ whole_term 0
times_zero t = same_cond (is_whole 0 t) (whole_term 0)

plus_zero : (t : Term) → count_of (simple_plus t (whole_term 0)) ≤ count_of t
plus_zero t = cond_most (is_whole 0 t) (whole_term 0) t (count_of t) (omega arith) (omega arith)

-- ---- the table, where the derivative of an operand with no variable is 0

second_factor : (t du : Term) (n : ℕ) → (n ≡ 0 → du ≡ whole_term 0) → count_of (simple_times t du) ≤ count_of du + n * (count_of t + 1)
second_factor t du zero z =
    let e : count_of (simple_times t (whole_term 0)) ≤ 0 = subst (λ (x : Term). count_of x ≤ 0) (sym (times_zero t)) (omega arith) in
    let f : count_of (simple_times t du) ≤ 0 = subst (λ (x : Term). count_of (simple_times t x) ≤ 0) (sym (z refl)) e in
    omega (arith, f)
second_factor t du (suc n) z = omega (arith, times_most t du)

product_most : (t u dt du : Term) (m n : ℕ) → (m ≡ 0 → dt ≡ whole_term 0) → (n ≡ 0 → du ≡ whole_term 0)
    → count_of (simple_plus (simple_times dt u) (simple_times t du)) ≤ count_of dt + count_of du + (m * (count_of u + 2) + n * (count_of t + 1))
product_most t u dt du zero n y z =
    let e : count_of (simple_plus (simple_times dt u) (simple_times t du)) ≤ count_of du + n * (count_of t + 1) =
    subst (λ (x : Term). count_of (simple_plus (simple_times x u) (simple_times t du)) ≤ count_of du + n * (count_of t + 1)) (sym (y refl)) (second_factor t du n z) in
    omega (arith, e)
product_most t u dt du (suc m) n y z = omega (arith, plus_most (simple_times dt u) (simple_times t du), times_most dt u, second_factor t du n z)

-- the second quotient of the rule, where the divisor moves
second_quotient : (t u du : Term) → count_of (simple_quotient (simple_times t du) (simple_power u (pos 2))) ≤ count_of du + (count_of t + count_of u + 3)
second_quotient t u du = omega (arith, quotient_most (simple_times t du) (simple_power u (pos 2)), times_most t du, power_most u (pos 2))

-- the rule, where the divisor does not
still_divisor : (t u dt : Term) → count_of (simple_minus (simple_quotient dt u) (simple_quotient (simple_times t (whole_term 0)) (simple_power u (pos 2)))) ≤ count_of (simple_quotient dt u)
still_divisor t u dt =
    subst (λ (x : Term). count_of (simple_minus (simple_quotient dt u) (simple_quotient x (simple_power u (pos 2)))) ≤ count_of (simple_quotient dt u)) (sym (times_zero t)) (omega arith)

first_quotient : (u dt : Term) (m : ℕ) → (m ≡ 0 → dt ≡ whole_term 0) → count_of (simple_quotient dt u) ≤ count_of dt + m * (count_of u + 1)
first_quotient u dt zero y =
    let e : count_of (simple_quotient dt u) ≤ 0 = subst (λ (x : Term). count_of (simple_quotient x u) ≤ 0) (sym (y refl)) (omega arith) in
    omega (arith, e)
first_quotient u dt (suc m) y = omega (arith, quotient_most dt u)

ratio_most : (t u dt du : Term) (m n : ℕ) → (m ≡ 0 → dt ≡ whole_term 0) → (n ≡ 0 → du ≡ whole_term 0)
    → count_of (simple_minus (simple_quotient dt u) (simple_quotient (simple_times t du) (simple_power u (pos 2)))) ≤ count_of dt + count_of du + (m * (count_of u + 1) + n * (count_of t + count_of u + 4))
ratio_most t u dt du m zero y z =
    let e : count_of (simple_minus (simple_quotient dt u) (simple_quotient (simple_times t du) (simple_power u (pos 2)))) ≤ count_of (simple_quotient dt u) =
    subst (λ (x : Term). count_of (simple_minus (simple_quotient dt u) (simple_quotient (simple_times t x) (simple_power u (pos 2)))) ≤ count_of (simple_quotient dt u)) (sym (z refl)) (still_divisor t u dt) in
    omega (arith, e, first_quotient u dt m y)
ratio_most t u dt du m (suc n) y z =
    omega (arith, minus_most (simple_quotient dt u) (simple_quotient (simple_times t du) (simple_power u (pos 2))), first_quotient u dt m y, second_quotient t u du)

sum_most : (dt du : Term) (m n : ℕ) → (m ≡ 0 → dt ≡ whole_term 0) → (n ≡ 0 → du ≡ whole_term 0) → count_of (simple_plus dt du) ≤ count_of dt + count_of du + min m n
sum_most dt du zero n y z = subst (λ (x : Term). count_of (simple_plus x du) ≤ count_of x + count_of du + min 0 n) (sym (y refl)) (omega arith)
sum_most dt du (suc m) zero y z = subst (λ (x : Term). count_of (simple_plus dt x) ≤ count_of dt + count_of x + min (suc m) 0) (sym (z refl)) (omega (arith, plus_zero dt))
sum_most dt du (suc m) (suc n) y z = omega (arith, plus_most dt du)

less_most : (dt du : Term) (n : ℕ) → (n ≡ 0 → du ≡ whole_term 0) → count_of (simple_minus dt du) ≤ count_of dt + count_of du + n
less_most dt du zero z = subst (λ (x : Term). count_of (simple_minus dt x) ≤ count_of dt + count_of x + 0) (sym (z refl)) (omega arith)
less_most dt du (suc n) z = omega (arith, minus_most dt du)

choice_most : (t u dt du : Term) (m n : ℕ) → (m ≡ 0 → dt ≡ whole_term 0) → (n ≡ 0 → du ≡ whole_term 0)
    → count_of (simple_pick t u dt du) ≤ count_of dt + count_of du + (m + n) * (count_of t + count_of u + 1)
choice_most t u dt du zero zero y z =
    let e : count_of (simple_pick t u dt du) ≤ 0 =
    subst (λ (x : Term). count_of (simple_pick t u x du) ≤ 0) (sym (y refl)) (subst (λ (x : Term). count_of (simple_pick t u (whole_term 0) x) ≤ 0) (sym (z refl)) (omega arith)) in
    omega (arith, e)
choice_most t u dt du zero (suc n) y z = omega (arith, pick_most t u dt du)
choice_most t u dt du (suc m) n y z = omega (arith, pick_most t u dt du)

pub binary_most : (op : Binary) (t u dt du : Term) (m n : ℕ) → (m ≡ 0 → dt ≡ whole_term 0) → (n ≡ 0 → du ≡ whole_term 0)
    → count_of (binary_derivative op t u dt du) ≤ count_of dt + count_of du + binary_bound op m n (count_of t) (count_of u)
binary_most plus t u dt du m n y z = sum_most dt du m n y z
binary_most minus t u dt du m n y z = less_most dt du n z
binary_most times t u dt du m n y z = product_most t u dt du m n y z
binary_most quotient t u dt du m n y z = ratio_most t u dt du m n y z
binary_most least t u dt du m n y z = choice_most t u dt du m n y z
binary_most greatest t u dt du m n y z = omega (arith, choice_most u t dt du m n y z)

pub negation_most : (dt : Term) (m : ℕ) → (m ≡ 0 → dt ≡ whole_term 0) → count_of (simple_negative dt) ≤ count_of dt + m
negation_most dt zero y = subst (λ (x : Term). count_of (simple_negative x) ≤ count_of x + 0) (sym (y refl)) (omega arith)
negation_most dt (suc m) y = omega (arith, negative_most dt)

pub power_derivative_most : (t : Term) (k : ℤ) (dt : Term) (m : ℕ) → (m ≡ 0 → dt ≡ whole_term 0) → count_of (power_derivative t k dt) ≤ count_of dt + m * (count_of t + 4)
power_derivative_most t k dt zero y =
    let factor = simple_times (signed_term k) (simple_power t (k -ℤ pos 1)) in
    let e : count_of (simple_times factor (whole_term 0)) ≤ 0 = subst (λ (x : Term). count_of x ≤ 0) (sym (times_zero factor)) (omega arith) in
    let f : count_of (power_derivative t k dt) ≤ 0 =
    subst (λ (x : Term). count_of (power_derivative t k x) ≤ 0) (sym (y refl)) (cond_most (int_eq k (pos 0)) (whole_term 0) (simple_times factor (whole_term 0)) 0 (omega arith) e) in
    omega (arith, f)
power_derivative_most t k dt (suc m) y =
    let factor = simple_times (signed_term k) (simple_power t (k -ℤ pos 1)) in
    cond_most (int_eq k (pos 0)) (whole_term 0) (simple_times factor dt) _ (omega arith)
    (omega (arith, times_most factor dt, times_most (signed_term k) (simple_power t (k -ℤ pos 1)), signed_most k, power_most t (k -ℤ pos 1)))

-- ---- the bound of an operator over more, and over more each

pub bound_more : (op : Binary) (p q r s m n : ℕ) → binary_bound op p q m n + binary_bound op r s m n ≤ binary_bound op (p + r) (q + s) m n
bound_more plus p q r s m n = omega arith
bound_more minus p q r s m n = omega arith
bound_more times p q r s m n = omega arith
bound_more quotient p q r s m n = omega arith
bound_more least p q r s m n = omega arith
bound_more greatest p q r s m n = omega arith

pub bound_rises : (op : Binary) (p q r s m n : ℕ) → p ≤ r → q ≤ s → binary_bound op p q m n ≤ binary_bound op r s m n
bound_rises plus p q r s m n h k = omega (arith, h, k)
bound_rises minus p q r s m n h k = k
bound_rises times p q r s m n h k = omega (arith, mul-le-mul_right (n + 2) h, mul-le-mul_right (m + 1) k)
bound_rises quotient p q r s m n h k = omega (arith, mul-le-mul_right (n + 1) h, mul-le-mul_right (m + n + 4) k)
bound_rises least p q r s m n h k = omega (arith, mul-le-mul_right (m + n + 1) h, mul-le-mul_right (m + n + 1) k)
bound_rises greatest p q r s m n h k = omega (arith, mul-le-mul_right (m + n + 1) h, mul-le-mul_right (m + n + 1) k)
