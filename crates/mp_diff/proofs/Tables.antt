-- The table of sizes says the sizes of what the table of derivatives builds.
use Rattle.std.proofs.Common.{◌≡◌, ℕ, suc, zero, ◌+◌, ◌-◌, ◌^◌, ◌==◌, ◌&&◌, ℤ, pos, negsuc, ◌-ℤ◌, min, Bool, true, false, cond, refl, sym, ap, ◌∙◌, arith}
use Rattle.std.proofs.lemmas.Bool.Decides.{nat_tests}
use Rattle.std.specs.Ordering.{int_eq}
use Rattle.mp_expr.specs.Size.{count_of}
use Rattle.mp_semantics.specs.Term.{Leaf, number, parameter, variable, steady_state, Binary, plus, minus, times, quotient, least, greatest, Term, leaf, negative, binary, power_of, pick}
use Rattle.mp_slopes.specs.Derivative.{whole_term, is_number, is_whole, simple_negative, simple_plus, simple_minus, simple_times, simple_quotient, simple_power, simple_pick, signed_term, product_derivative, quotient_derivative, binary_derivative, power_derivative}
use Rattle.mp_diff.specs.declared.measure.Core.TheVariants.{Zero, One, Other}
use Rattle.mp_diff.specs.declared.measure.Size.{Size}
use Rattle.mp_diff.specs.Size.{is_zero_core, is_one_core, is_zero, is_one, total, bare, once_more, once_less, leaf_size, size_of, negative_size, plus_size, minus_size, times_size, quotient_size, power_size, pick_size, product_size, quotient_derivative_size, binary_size, power_derivative_size}

-- ---- which number it is

more_ne_zero : (n : ℕ) → (n + 1 == 0) ≡ false
more_ne_zero n = grind (arith, nat_tests)

and_false : (b : Bool) → (b && false) ≡ false
and_false true = refl
and_false false = refl

zero_ne_one : (l : Leaf) → is_number 0 l ≡ true → is_number 1 l ≡ false
zero_ne_one (number m s) e = by (m == 0) refl e
  where
    by : (p : Bool) → (m == 0) ≡ p → (p && (s == 0)) ≡ true → ((m == 1) && (s == 0)) ≡ false
    by true f h =
        let k : (m == 1) ≡ false = grind (arith, nat_tests) in
        ap (λ (b : Bool). b && (s == 0)) k
    by false f h = cc
zero_ne_one (parameter p) e = refl
zero_ne_one (variable y j) e = refl
zero_ne_one (steady_state y) e = refl

pub zero_is : (t : Term) → is_zero (size_of t) ≡ is_whole 0 t
zero_is (leaf l) = by (is_number 0 l) (is_number 1 l)
  where
    by : (p q : Bool) → (is_zero_core (cond p Zero (cond q One Other)) && (0 == 0)) ≡ p
    by true q = refl
    by false true = refl
    by false false = refl
zero_is (negative a) = ap (λ (b : Bool). is_zero_core (size_of a).core && b) (more_ne_zero (size_of a).negations) ∙ and_false (is_zero_core (size_of a).core)
zero_is (binary op a b) = refl
zero_is (power_of a k) = refl
zero_is (pick a b c d) = refl

pub one_is : (t : Term) → is_one (size_of t) ≡ is_whole 1 t
one_is (leaf l) = by (is_number 0 l) (is_number 1 l) refl refl
  where
    by : (p q : Bool) → is_number 0 l ≡ p → is_number 1 l ≡ q → (is_one_core (cond p Zero (cond q One Other)) && (0 == 0)) ≡ q
    by true q e f = sym (zero_ne_one l e) ∙ f
    by false true e f = refl
    by false false e f = refl
one_is (negative a) = ap (λ (b : Bool). is_one_core (size_of a).core && b) (more_ne_zero (size_of a).negations) ∙ and_false (is_one_core (size_of a).core)
one_is (binary op a b) = refl
one_is (power_of a k) = refl
one_is (pick a b c d) = refl

-- ---- the operators

if_size : (p : Bool) (t u : Term) → cond p (size_of t) (size_of u) ≡ size_of (cond p t u)
if_size true t u = refl
if_size false t u = refl

back_again : (s : Size) → once_less (once_more s) ≡ s
back_again s =
    let e : s.negations + 1 - 1 ≡ s.negations = omega arith in
    ap (λ (n : ℕ). record { negations = n; core = s.core; below = s.below }) e

pub negative_is : (t : Term) → negative_size (size_of t) ≡ size_of (simple_negative t)
negative_is (leaf l) = ap (λ (p : Bool). cond p (bare Zero) (once_more (leaf_size l))) (zero_is (leaf l)) ∙ if_size (is_number 0 l) (whole_term 0) (negative (leaf l))
negative_is (negative a) =
    ap (λ (p : Bool). cond p (bare Zero) (cond ((size_of a).negations + 1 == 0) (once_more (once_more (size_of a))) (once_less (once_more (size_of a))))) (zero_is (negative a))
    ∙ ap (λ (p : Bool). cond p (once_more (once_more (size_of a))) (once_less (once_more (size_of a)))) (more_ne_zero (size_of a).negations)
    ∙ back_again (size_of a)
negative_is (binary op a b) = refl
negative_is (power_of a k) = refl
negative_is (pick a b c d) = refl

pub plus_is : (t u : Term) → plus_size (size_of t) (size_of u) ≡ size_of (simple_plus t u)
plus_is t u =
    ap (λ (p : Bool). cond p (size_of u) (cond (is_zero (size_of u)) (size_of t) (size_of (binary plus t u)))) (zero_is t)
    ∙ ap (λ (p : Bool). cond (is_whole 0 t) (size_of u) (cond p (size_of t) (size_of (binary plus t u)))) (zero_is u)
    ∙ by (is_whole 0 t) (is_whole 0 u)
  where
    by : (p q : Bool) → cond p (size_of u) (cond q (size_of t) (size_of (binary plus t u))) ≡ size_of (cond p u (cond q t (binary plus t u)))
    by true q = refl
    by false true = refl
    by false false = refl

pub minus_is : (t u : Term) → minus_size (size_of t) (size_of u) ≡ size_of (simple_minus t u)
minus_is t u =
    ap (λ (p : Bool). cond p (size_of t) (cond (is_zero (size_of t)) (negative_size (size_of u)) (size_of (binary minus t u)))) (zero_is u)
    ∙ ap (λ (p : Bool). cond (is_whole 0 u) (size_of t) (cond p (negative_size (size_of u)) (size_of (binary minus t u)))) (zero_is t)
    ∙ by (is_whole 0 u) (is_whole 0 t)
  where
    by : (p q : Bool) → cond p (size_of t) (cond q (negative_size (size_of u)) (size_of (binary minus t u))) ≡ size_of (cond p t (cond q (simple_negative u) (binary minus t u)))
    by true q = refl
    by false true = negative_is u
    by false false = refl

pub times_is : (t u : Term) → times_size (size_of t) (size_of u) ≡ size_of (simple_times t u)
times_is t u =
    ap (λ (p : Bool). cond p (bare Zero) (cond (is_zero (size_of u)) (bare Zero) (cond (is_one (size_of t)) (size_of u) (cond (is_one (size_of u)) (size_of t) (size_of (binary times t u)))))) (zero_is t)
    ∙ ap (λ (p : Bool). cond (is_whole 0 t) (bare Zero) (cond p (bare Zero) (cond (is_one (size_of t)) (size_of u) (cond (is_one (size_of u)) (size_of t) (size_of (binary times t u)))))) (zero_is u)
    ∙ ap (λ (p : Bool). cond (is_whole 0 t) (bare Zero) (cond (is_whole 0 u) (bare Zero) (cond p (size_of u) (cond (is_one (size_of u)) (size_of t) (size_of (binary times t u)))))) (one_is t)
    ∙ ap (λ (p : Bool). cond (is_whole 0 t) (bare Zero) (cond (is_whole 0 u) (bare Zero) (cond (is_whole 1 t) (size_of u) (cond p (size_of t) (size_of (binary times t u)))))) (one_is u)
    ∙ by (is_whole 0 t) (is_whole 0 u) (is_whole 1 t) (is_whole 1 u)
  where
    by : (p q r s : Bool)
        → cond p (bare Zero) (cond q (bare Zero) (cond r (size_of u) (cond s (size_of t) (size_of (binary times t u)))))
        ≡ size_of (cond p (whole_term 0) (cond q (whole_term 0) (cond r u (cond s t (binary times t u)))))
    by true q r s = refl
    by false true r s = refl
    by false false true s = refl
    by false false false true = refl
    by false false false false = refl

pub quotient_is : (t u : Term) → quotient_size (size_of t) (size_of u) ≡ size_of (simple_quotient t u)
quotient_is t u =
    ap (λ (p : Bool). cond p (bare Zero) (size_of (binary quotient t u))) (zero_is t) ∙ if_size (is_whole 0 t) (whole_term 0) (binary quotient t u)

pub power_is : (t : Term) (k : ℤ) → power_size (size_of t) k ≡ size_of (simple_power t k)
power_is t (pos zero) = refl
power_is t (pos (suc zero)) = refl
power_is t (pos (suc (suc n))) = refl
power_is t (negsuc n) = refl

pub pick_is : (t u v w : Term) → pick_size (size_of t) (size_of u) (size_of v) (size_of w) ≡ size_of (simple_pick t u v w)
pick_is t u v w =
    ap (λ (p : Bool). cond (p && is_zero (size_of w)) (bare Zero) (size_of (pick t u v w))) (zero_is v)
    ∙ ap (λ (p : Bool). cond (is_whole 0 v && p) (bare Zero) (size_of (pick t u v w))) (zero_is w)
    ∙ if_size (is_whole 0 v && is_whole 0 w) (whole_term 0) (pick t u v w)

-- ---- the table

product_is : (t u dt du : Term) → product_size (size_of t) (size_of u) (size_of dt) (size_of du) ≡ size_of (product_derivative t u dt du)
product_is t u dt du =
    ap (λ (s : Size). plus_size s (times_size (size_of t) (size_of du))) (times_is dt u)
    ∙ ap (λ (s : Size). plus_size (size_of (simple_times dt u)) s) (times_is t du)
    ∙ plus_is (simple_times dt u) (simple_times t du)

quotient_derivative_is : (t u dt du : Term) → quotient_derivative_size (size_of t) (size_of u) (size_of dt) (size_of du) ≡ size_of (quotient_derivative t u dt du)
quotient_derivative_is t u dt du =
    ap (λ (s : Size). minus_size s (quotient_size (times_size (size_of t) (size_of du)) (power_size (size_of u) (pos 2)))) (quotient_is dt u)
    ∙ ap (λ (s : Size). minus_size (size_of (simple_quotient dt u)) (quotient_size s (power_size (size_of u) (pos 2)))) (times_is t du)
    ∙ ap (λ (s : Size). minus_size (size_of (simple_quotient dt u)) (quotient_size (size_of (simple_times t du)) s)) (power_is u (pos 2))
    ∙ ap (λ (s : Size). minus_size (size_of (simple_quotient dt u)) s) (quotient_is (simple_times t du) (simple_power u (pos 2)))
    ∙ minus_is (simple_quotient dt u) (simple_quotient (simple_times t du) (simple_power u (pos 2)))

pub binary_is : (op : Binary) (t u dt du : Term) → binary_size op (size_of t) (size_of u) (size_of dt) (size_of du) ≡ size_of (binary_derivative op t u dt du)
binary_is plus t u dt du = plus_is dt du
binary_is minus t u dt du = minus_is dt du
binary_is times t u dt du = product_is t u dt du
binary_is quotient t u dt du = quotient_derivative_is t u dt du
binary_is least t u dt du = pick_is t u dt du
binary_is greatest t u dt du = pick_is u t dt du

pub power_derivative_is : (t : Term) (n : ℤ) (dt : Term) → power_derivative_size (size_of t) n (size_of dt) ≡ size_of (power_derivative t n dt)
power_derivative_is t n dt =
    ap (λ (s : Size). cond (int_eq n (pos 0)) (bare Zero) s)
    (ap (λ (s : Size). times_size (times_size (size_of (signed_term n)) s) (size_of dt)) (power_is t (n -ℤ pos 1))
    ∙ ap (λ (s : Size). times_size s (size_of dt)) (times_is (signed_term n) (simple_power t (n -ℤ pos 1)))
    ∙ times_is (simple_times (signed_term n) (simple_power t (n -ℤ pos 1))) dt)
    ∙ if_size (int_eq n (pos 0)) (whole_term 0) (simple_times (simple_times (signed_term n) (simple_power t (n -ℤ pos 1))) dt)

-- ---- the count

pub total_is : (t : Term) → total (size_of t) ≡ min (count_of t) (10 ^ 37)
total_is (leaf l) = refl
total_is (negative a) = let e = total_is a in omega (arith, e)
total_is (binary op a b) = let e = total_is a in let f = total_is b in omega (arith, e, f)
total_is (power_of a k) = let e = total_is a in omega (arith, e)
total_is (pick a b c d) = let e = total_is a in let f = total_is b in let g = total_is c in let h = total_is d in omega (arith, e, f, g, h)
