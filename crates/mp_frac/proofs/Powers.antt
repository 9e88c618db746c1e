-- Powers as repeated products.
use Rattle.std.proofs.Common.{◌≡◌, ℕ, suc, zero, ℤ, pos, negsuc, ◌+◌, ◌≤◌, ◌-◌, ap, arith, sym, ◌∙◌, refl, true, false, Result, Ok, Err}
use Rattle.std.specs.Prelude.{MatchResult}
use Rattle.std.specs.Int.RustNames.{unsigned_abs}
use Rattle.std.specs.Int.Signed.{lt_z}
use Rattle.std.proofs.lemmas.Bool.{ltb-true}
use Rattle.mp_integer.proofs.Signs.{negative, signed-negative}
use Rattle.mp_rational.specs.Fraction.{Fraction, one, inv, is_zero, ratio_of}
use Rattle.mp_rational.proofs.Laws.{mul_comm, mul-one}
use Rattle.mp_frac.specs.Stated.{Outcome, after, reduced, product_outcome, quotient_outcome, product_times, power_outcome}
use Rattle.mp_frac.specs.Value.{value_of, outcome_of}
use Rattle.mp_frac.specs.declared.frac.Frac.{Frac}
use Rattle.mp_frac.specs.declared.fault.FracFault.{FracFault}
use Rattle.mp_frac.specs.declared.fault.FracFault.TheVariants.{ZeroDivisor}
use Rattle.mp_frac.proofs.Outcomes.{reduced-within}
use Rattle.mp_frac.proofs.Quotients.{quotient_outcome-inverse, quotient_outcome-zero}

pub product_times-zero : (x : Fraction) → product_times x 0 ≡ Ok one
unfolding product_times
product_times-zero x = refl

-- one more factor
pub product_times-next : (x p : Fraction) (n : ℕ) → product_times x n ≡ Ok p → product_times x (n + 1) ≡ product_outcome p x
unfolding product_times
product_times-next x p n e =
    let next : n + 1 ≡ suc n = omega arith in
    ap (product_times x) next ∙ ap (λ (o : Outcome). after o (λ q. product_outcome q x)) e

err_by : (x : Fraction) (n k : ℕ) (e : FracFault) → product_times x n ≡ Err e → product_times x (k + n) ≡ Err e
unfolding product_times
err_by x n zero e h = let none : 0 + n ≡ n = omega arith in ap (product_times x) none ∙ h
err_by x n (suc k) e h =
    let next : suc k + n ≡ suc (k + n) = omega arith in
    ap (product_times x) next ∙ ap (λ (o : Outcome). after o (λ q. product_outcome q x)) (err_by x n k e h)

-- the first fault stays
pub product_times-err : (x : Fraction) (m n : ℕ) (e : FracFault) → m ≤ n → product_times x m ≡ Err e → product_times x n ≡ Err e
product_times-err x m n e l h =
    let split : n ≡ n - m + m = omega arith in
    ap (product_times x) split ∙ err_by x m (n - m) e h

-- a power is refused where its products are
pub power_outcome-err : (x : Fraction) (k : ℤ) (e : FracFault) → product_times x (unsigned_abs k) ≡ Err e → power_outcome x k ≡ Err e
unfolding power_outcome
power_outcome-err x (pos n) e h = h
power_outcome-err x (negsuc n) e h = ap (λ (o : Outcome). after o (λ p. quotient_outcome one p)) h

pub power_outcome-pos : (x p : Fraction) (k : ℤ) → lt_z k (pos 0) ≡ false → product_times x (unsigned_abs k) ≡ Ok p → power_outcome x k ≡ Ok p
unfolding power_outcome
power_outcome-pos x p (pos n) l h = h
power_outcome-pos x p (negsuc n) l h = cc

pub power_outcome-negative : (x p : Fraction) (k : ℤ) → lt_z k (pos 0) ≡ true → product_times x (unsigned_abs k) ≡ Ok p
    → power_outcome x k ≡ quotient_outcome one p
unfolding power_outcome
power_outcome-negative x p (pos n) l h = let below = ltb-true n 0 l in absurd (omega (arith, below))
power_outcome-negative x p (negsuc n) l h = ap (λ (o : Outcome). after o (λ p. quotient_outcome one p)) h

pub reduced-value_of : (f : Frac) → reduced (value_of f) ≡ Ok (value_of f)
reduced-value_of f =
    let e = signed-negative f.num in
    ap (λ (z : ℤ). reduced (ratio_of z f.den)) (sym e)
    ∙ reduced-within (negative f.num) (unsigned_abs f.num) f.den f.positive f.coprime f.num_small f.den_small
    ∙ ap (λ (z : ℤ). Ok (ratio_of z f.den)) e

-- one divided by what is not 0
pub reciprocal_outcome : (p : Fraction) (r : Result Frac FracFault)
    → MatchResult r (λ f. (is_zero p ≡ false) × (value_of f ≡ inv p)) (λ e. (e ≡ ZeroDivisor) × (is_zero p ≡ true))
    → outcome_of r ≡ quotient_outcome one p
reciprocal_outcome p (Ok f) h =
    sym (quotient_outcome-inverse one p h.0
    ∙ ap reduced (mul_comm one (inv p) ∙ mul-one (inv p) ∙ sym h.1) ∙ reduced-value_of f)
reciprocal_outcome p (Err e) h = ap Err h.0 ∙ sym (quotient_outcome-zero one p h.1)
