-- The derivative of an expression has the slope of its dual number as its value.
use Rattle.std.proofs.Common.{◌≡◌, ℕ, suc, zero, ℤ, pos, negsuc, ◌-ℤ◌, Bool, true, false, cond, Option, Some, None, refl, sym, ap, ◌∙◌, arith}
use Rattle.std.proofs.lemmas.Bool.Decides.{nat_tests}
use Rattle.std.proofs.lemmas.Int.{ints}
use Rattle.std.specs.Ordering.{int_eq}
use Rattle.mp_rational.specs.Fraction.{Fraction, add, mul, neg, inv, is_zero, less, whole, nought, one, power_nat}
use Rattle.mp_semantics.specs.Term.{Variable, Leaf, number, parameter, variable, steady_state, Binary, plus, minus, times, quotient, least, greatest, Term, leaf, negative, binary, power_of, pick}
use Rattle.mp_semantics.specs.Value.{Environment, of_one, of_both, leaf_value, val}
use Rattle.mp_slopes.specs.Derivative.{whole_term, simple_negative, simple_times, simple_quotient, simple_power, simple_pick, leaf_derivative, binary_derivative, quotient_derivative, power_derivative, derivative_of}
use Rattle.mp_slopes.specs.Dual.{Dual, constant, dual_neg, dual_mul, dual_inv, dual_div, dual_power, dual_power_nat, dual_lesser, dual_greater, dual_result, is_at, leaf_slope, dual}
use Rattle.mp_slopes.proofs.Field.{Field, one-mul, less_back, power-ne-nought, factor-ne-nought}
use Rattle.mp_slopes.proofs.Has.{plus_has, negative_has, minus_has, times_has, quotient_has, power_has, pick_has}
use Rattle.mp_slopes.proofs.Powers.{power_real, power_slope, quotient_slope, cancelled, negative_slope}

-- what a dual number says of the value of an expression and of that of its derivative
abbrev pub Agrees : Option Dual → Option Fraction → Option Fraction → Type 0
Agrees None v d = Unit {0}
Agrees (Some x) v d = (v ≡ Some x.real) × (d ≡ Some x.slope)

less_one : (n : ℕ) → pos (suc n) -ℤ pos 1 ≡ pos n
less_one n = omega (arith, ints)

more_below : (n : ℕ) → negsuc n -ℤ pos 1 ≡ negsuc (suc n)
more_below n = omega (arith, ints)

not_nought : (n : ℕ) → int_eq (pos (suc n)) (pos 0) ≡ false
not_nought n = grind (arith, nat_tests)

module _ (f : Field) (env : Environment) (t : ℤ) where
  leaf_agrees : (l : Leaf) (v : Variable) (k : ℤ) (o : Option Fraction)
      → Agrees (of_one (λ x. Some record { real = x; slope = leaf_slope v k l }) o) o (val (leaf_derivative l v k) env t)
  leaf_agrees l v k None = tt
  leaf_agrees (number m s) v k (Some x) = (refl, refl)
  leaf_agrees (parameter p) v k (Some x) = (refl, refl)
  leaf_agrees (variable y j) v k (Some x) = by (is_at v k y j)
    where
      by : (b : Bool) → Agrees (Some record { real = x; slope = cond b one nought }) (Some x) (val (cond b (whole_term 1) (whole_term 0)) env t)
      by true = (refl, refl)
      by false = (refl, refl)
  leaf_agrees (steady_state y) v k (Some x) = (refl, refl)

  negative_agrees : (x : Option Dual) (a da : Term) → Agrees x (val a env t) (val da env t)
      → Agrees (of_one (λ x. Some (dual_neg x)) x) (val (negative a) env t) (val (simple_negative da) env t)
  negative_agrees None a da h = tt
  negative_agrees (Some x) a da h = (rw h.0 refl, negative_has f env t da x.slope h.1)

  -- ---- quotients

  square_has : (b : Term) (y : Fraction) → val b env t ≡ Some y → val (simple_power b (pos 2)) env t ≡ Some (mul (mul one y) y)
  square_has b y h = rw h refl

  quotient_agrees : (x y : Dual) (a b da db : Term) → Agrees (Some x) (val a env t) (val da env t) → Agrees (Some y) (val b env t) (val db env t)
      → Agrees (dual_div x y) (val (binary quotient a b) env t) (val (quotient_derivative a b da db) env t)
  quotient_agrees x y a b da db h k = by (is_zero y.real) refl
    where
      by : (p : Bool) → is_zero y.real ≡ p
          → Agrees (cond p None (Some (dual_mul x (dual_inv y)))) (val (binary quotient a b) env t) (val (quotient_derivative a b da db) env t)
      by true e = tt
      by false e =
          let s : is_zero (mul (mul one y.real) y.real) ≡ false = f.mul-ne-nought (mul one y.real) y.real (ap is_zero (one-mul f y.real) ∙ e) e in (
            rw (h.0, k.0) (f.div_is x.real y.real e),
            minus_has f env t (simple_quotient da b) (simple_quotient (simple_times a db) (simple_power b (pos 2))) (mul x.slope (inv y.real)) (mul (mul x.real y.slope) (inv (mul (mul one y.real) y.real)))
                (quotient_has f env t da b x.slope y.real h.1 k.0 e)
                (quotient_has f env t (simple_times a db) (simple_power b (pos 2)) (mul x.real y.slope) (mul (mul one y.real) y.real) (times_has f env t a db x.real y.slope h.0 k.1) (square_has b y.real k.0) s)
                ∙ ap Some (quotient_slope f x.real y.real x.slope y.slope e),
          )

  -- ---- the lesser and the greater

  least_agrees : (x y : Dual) (a b da db : Term) → Agrees (Some x) (val a env t) (val da env t) → Agrees (Some y) (val b env t) (val db env t)
      → Agrees (dual_lesser x y) (val (binary least a b) env t) (val (simple_pick a b da db) env t)
  least_agrees x y a b da db h k = by (less x.real y.real) (less y.real x.real) refl refl
    where
      by : (p q : Bool) → less x.real y.real ≡ p → less y.real x.real ≡ q
          → Agrees (cond p (Some x) (cond q (Some y) None)) (val (binary least a b) env t) (val (simple_pick a b da db) env t)
      by true q e g = (rw (h.0, k.0, e) refl, (pick_has f env t a b da db x.real y.real x.slope y.slope h.0 k.0 h.1 k.1).0 e)
      by false true e g = (rw (h.0, k.0, e) refl, (pick_has f env t a b da db x.real y.real x.slope y.slope h.0 k.0 h.1 k.1).1 e g)
      by false false e g = tt

  greatest_agrees : (x y : Dual) (a b da db : Term) → Agrees (Some x) (val a env t) (val da env t) → Agrees (Some y) (val b env t) (val db env t)
      → Agrees (dual_greater x y) (val (binary greatest a b) env t) (val (simple_pick b a da db) env t)
  greatest_agrees x y a b da db h k = by (less x.real y.real) (less y.real x.real) refl refl
    where
      by : (p q : Bool) → less x.real y.real ≡ p → less y.real x.real ≡ q
          → Agrees (cond p (Some y) (cond q (Some x) None)) (val (binary greatest a b) env t) (val (simple_pick b a da db) env t)
      by true q e g = (rw (h.0, k.0, e) refl, (pick_has f env t b a da db y.real x.real x.slope y.slope k.0 h.0 h.1 k.1).1 (less_back f x.real y.real e) e)
      by false true e g = (rw (h.0, k.0, e) refl, (pick_has f env t b a da db y.real x.real x.slope y.slope k.0 h.0 h.1 k.1).0 g)
      by false false e g = tt

  -- ---- operators with two operands

  both_agree : (op : Binary) (x y : Dual) (a b da db : Term) → Agrees (Some x) (val a env t) (val da env t) → Agrees (Some y) (val b env t) (val db env t)
      → Agrees (dual_result op x y) (val (binary op a b) env t) (val (binary_derivative op a b da db) env t)
  both_agree plus x y a b da db h k = (rw (h.0, k.0) refl, plus_has f env t da db x.slope y.slope h.1 k.1)
  both_agree minus x y a b da db h k = (rw (h.0, k.0) refl, minus_has f env t da db x.slope y.slope h.1 k.1)
  both_agree times x y a b da db h k = (
    rw (h.0, k.0) refl,
    plus_has f env t (simple_times da b) (simple_times a db) _ _ (times_has f env t da b _ _ h.1 k.0) (times_has f env t a db _ _ h.0 k.1),
  )
  both_agree quotient x y a b da db h k = quotient_agrees x y a b da db h k
  both_agree least x y a b da db h k = least_agrees x y a b da db h k
  both_agree greatest x y a b da db h k = greatest_agrees x y a b da db h k

  binary_agrees : (op : Binary) (x y : Option Dual) (a b da db : Term) → Agrees x (val a env t) (val da env t) → Agrees y (val b env t) (val db env t)
      → Agrees (of_both (dual_result op) x y) (val (binary op a b) env t) (val (binary_derivative op a b da db) env t)
  binary_agrees op None y a b da db h k = tt
  binary_agrees op (Some x) None a b da db h k = tt
  binary_agrees op (Some x) (Some y) a b da db h k = both_agree op x y a b da db h k

  -- ---- powers

  positive_agrees : (x : Dual) (n : ℕ) (a da : Term) → Agrees (Some x) (val a env t) (val da env t)
      → Agrees (dual_power x (pos (suc n))) (val (power_of a (pos (suc n))) env t) (val (simple_times (simple_times (whole_term (suc n)) (simple_power a (pos (suc n) -ℤ pos 1))) da) env t)
  positive_agrees x n a da h = (
    rw h.0 (ap Some (sym (power_real x (suc n)))),
    ap (λ (k : ℤ). val (simple_times (simple_times (whole_term (suc n)) (simple_power a k)) da) env t) (less_one n)
        ∙ times_has f env t (simple_times (whole_term (suc n)) (simple_power a (pos n))) da _ _
        (times_has f env t (whole_term (suc n)) (simple_power a (pos n)) _ _ refl (power_has f env t a x.real n h.0)) h.1
        ∙ ap Some (sym (power_slope f x n)),
  )

  reciprocal_agrees : (x : Dual) (n : ℕ) (a da : Term) → Agrees (Some x) (val a env t) (val da env t)
      → Agrees (dual_power x (negsuc n)) (val (power_of a (negsuc n)) env t) (val (simple_times (simple_times (negative (whole_term (suc n))) (simple_power a (negsuc n -ℤ pos 1))) da) env t)
  reciprocal_agrees x n a da h = by (is_zero (dual_power_nat x (suc n)).real) refl
    where
      w : Fraction
      w = whole (pos (suc n))

      d : Dual
      d = dual_power_nat x (suc n)

      r : d.real ≡ power_nat x.real (suc n)
      r = power_real x (suc n)

      lower : Fraction
      lower = mul one (inv (power_nat x.real (suc (suc n))))

      by : (p : Bool) → is_zero d.real ≡ p
          → Agrees (cond p None (Some (dual_mul (constant one) (dual_inv d)))) (val (power_of a (negsuc n)) env t)
          (val (simple_times (simple_times (negative (whole_term (suc n))) (simple_power a (negsuc n -ℤ pos 1))) da) env t)
      by true e = tt
      by false e =
          let z : is_zero (power_nat x.real (suc n)) ≡ false = ap is_zero (sym r) ∙ e in
          let k = factor-ne-nought f (power_nat x.real n) x.real z in
          let q : is_zero (power_nat x.real (suc (suc n))) ≡ false = power-ne-nought f x.real (suc (suc n)) k in (
            rw h.0 (f.div_is one (power_nat x.real (suc n)) z ∙ ap (λ (u : Fraction). Some (mul one (inv u))) (sym r)),
            ap (λ (j : ℤ). val (simple_times (simple_times (negative (whole_term (suc n))) (simple_power a j)) da) env t) (more_below n)
                ∙ times_has f env t (simple_times (negative (whole_term (suc n))) (power_of a (negsuc (suc n)))) da (mul (neg w) lower) x.slope
                (times_has f env t (negative (whole_term (suc n))) (power_of a (negsuc (suc n))) (neg w) lower refl
                (rw h.0 (f.div_is one (power_nat x.real (suc (suc n))) q))) h.1
                ∙ ap Some (sym (ap (λ (u : Fraction). add (mul nought (inv d.real)) (mul one (neg (mul u (mul (inv d.real) (inv d.real)))))) (power_slope f x n)
                ∙ negative_slope f w (power_nat x.real n) x.slope (inv (power_nat x.real (suc (suc n)))) (inv d.real)
                (ap (λ (u : Fraction). mul (power_nat x.real n) (mul (inv u) (inv u))) r ∙ cancelled f (power_nat x.real n) x.real (power-ne-nought f x.real n k) k))),
          )

  power_agrees : (x : Option Dual) (n : ℤ) (a da : Term) → Agrees x (val a env t) (val da env t)
      → Agrees (of_one (λ x. dual_power x n) x) (val (power_of a n) env t) (val (power_derivative a n da) env t)
  power_agrees None n a da h = tt
  power_agrees (Some x) (pos zero) a da h = (rw h.0 refl, refl)
  power_agrees (Some x) (pos (suc n)) a da h = rw (not_nought n) (positive_agrees x n a da h)
  power_agrees (Some x) (negsuc n) a da h = reciprocal_agrees x n a da h

  -- ---- expressions

  pub derivative_agrees : (e : Term) (v : Variable) (k : ℤ) → Agrees (dual e v k env t) (val e env t) (val (derivative_of e v k) env t)
  derivative_agrees (leaf l) v k = leaf_agrees l v k (leaf_value env t l)
  derivative_agrees (negative a) v k = negative_agrees (dual a v k env t) a (derivative_of a v k) (derivative_agrees a v k)
  derivative_agrees (binary op a b) v k =
      binary_agrees op (dual a v k env t) (dual b v k env t) a b (derivative_of a v k) (derivative_of b v k) (derivative_agrees a v k) (derivative_agrees b v k)
  derivative_agrees (power_of a n) v k = power_agrees (dual a v k env t) n a (derivative_of a v k) (derivative_agrees a v k)
  derivative_agrees (pick a b c d) v k = tt

-- the two halves of it
pub agrees_real : (o : Option Dual) (u w : Option Fraction) (d : Dual) → Agrees o u w → o ≡ Some d → u ≡ Some d.real
agrees_real None u w d h e = cc
agrees_real (Some x) u w d h e = h.0 ∙ ap (λ (o : Option Dual). of_one (λ (x : Dual). Some x.real) o) e

pub agrees_slope : (o : Option Dual) (u w : Option Fraction) (d : Dual) → Agrees o u w → o ≡ Some d → w ≡ Some d.slope
agrees_slope None u w d h e = cc
agrees_slope (Some x) u w d h e = h.1 ∙ ap (λ (o : Option Dual). of_one (λ (x : Dual). Some x.slope) o) e
