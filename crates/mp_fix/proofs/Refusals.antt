-- When an operation has a zero divisor.
use Rattle.std.proofs.Common.{◌≡◌, zero, suc, ℤ, pos, negsuc, ◌+ℤ◌, ◌-ℤ◌, ◌*ℤ◌, Bool, true, false, cond, Result, Ok, Err, refl, arith}
use Rattle.std.specs.Prelude.{◌↔◌, int_lt, nat_le, not, ◌&&◌}
use Rattle.std.specs.Int.Signed.{◌≤ℤ◌, lt_z}
use Rattle.std.specs.Int.RustNames.{unsigned_abs}
use Rattle.std.proofs.lemmas.Int.{ints}
use Rattle.mp_base.specs.declared.kinds.FixFault.{FixFault}
use Rattle.mp_base.specs.declared.kinds.FixFault.TheVariants.{Overflow, ZeroDivisor}
use Rattle.mp_fix.specs.Units.{unit, most, floor, ceiling, within}
use Rattle.mp_fix.specs.Points.{and_then, by_signed, sum_of, difference_of, product_down, quotient_down}
use Rattle.mp_fix.specs.Interval.{Interval}
use Rattle.mp_fix.specs.Intervals.{with_ends, least, greatest, of_ends, interval_sum, interval_difference, interval_product, interval_quotient, holds_zero}

within_by : (b : Bool) (z : ℤ) → cond b (Ok z) (Err Overflow) ≡ Err ZeroDivisor → ⊥
within_by true z e = cc e
within_by false z e = cc e

pub within_no_zero : (z : ℤ) → within z ≡ Err ZeroDivisor → ⊥
within_no_zero z e = within_by (nat_le (unsigned_abs z) most) z e

ends_by : (b c : Bool) (lo hi : ℤ) (o : Result Interval FixFault) → o ≡ and_then (cond b (Ok lo) (Err Overflow)) (λ l. and_then (cond c (Ok hi) (Err Overflow)) (λ h. Ok record { lo = l; hi = h })) → o ≡ Err ZeroDivisor → ⊥
ends_by true true lo hi o i e = cc (i, e)
ends_by true false lo hi o i e = cc (i, e)
ends_by false c lo hi o i e = cc (i, e)

pub ends_no_zero : (lo hi : ℤ) → with_ends lo hi ≡ Err ZeroDivisor → ⊥
ends_no_zero lo hi e = ends_by (nat_le (unsigned_abs lo) most) (nat_le (unsigned_abs hi) most) lo hi (with_ends lo hi) refl e

pub quotient_by_zero : (a b : ℤ) → (quotient_down a b ≡ Err ZeroDivisor) ↔ (b ≡ pos 0)
quotient_by_zero a (pos zero) = (λ e. refl, λ e. refl)
quotient_by_zero a (pos (suc k)) = (λ e. absurd (within_no_zero (by_signed floor (a *ℤ pos unit) (pos (suc k))) e), λ e. absurd (omega (arith, ints, e)))
quotient_by_zero a (negsuc k) = (λ e. absurd (within_no_zero (by_signed floor (a *ℤ pos unit) (negsuc k)) e), λ e. absurd (omega (arith, ints, e)))

-- neither end is beyond 0
around : (p q : Bool) (b : Interval) → lt_z (pos 0) b.lo ≡ p → lt_z b.hi (pos 0) ≡ q → ((not p && not q) ≡ true) ↔ ((b.lo ≤ℤ pos 0) × (pos 0 ≤ℤ b.hi))
around true q b e f = (λ h. absurd (cc h), λ h. absurd (grind (arith, ints, e, h.0)))
around false true b e f = (λ h. absurd (cc h), λ h. absurd (grind (arith, ints, f, h.1)))
around false false b e f = (λ h. (grind (arith, ints, e), grind (arith, ints, f)), λ h. refl)

by_zero : (t : Bool) (lo hi : ℤ) → (cond t (Err ZeroDivisor) (with_ends lo hi) ≡ Err ZeroDivisor) ↔ (t ≡ true)
by_zero true lo hi = (λ e. refl, λ e. refl)
by_zero false lo hi = (λ e. absurd (ends_no_zero lo hi e), λ e. absurd (cc e))

pub interval_by_zero : (a b : Interval) → (interval_quotient a b ≡ Err ZeroDivisor) ↔ ((b.lo ≤ℤ pos 0) × (pos 0 ≤ℤ b.hi))
interval_by_zero a b =
    let z = by_zero (holds_zero b) (of_ends least (λ x y. by_signed floor (x *ℤ pos unit) y) a b) (of_ends greatest (λ x y. by_signed ceiling (x *ℤ pos unit) y) a b) in
    let h = around (int_lt (pos 0) b.lo) (int_lt b.hi (pos 0)) b refl refl in
    (λ e. h.0 (z.0 e), λ e. z.1 (h.1 e))

pub sum_no_zero : (a b : ℤ) → sum_of a b ≡ Err ZeroDivisor → ⊥
sum_no_zero a b e = within_no_zero (a +ℤ b) e

pub difference_no_zero : (a b : ℤ) → difference_of a b ≡ Err ZeroDivisor → ⊥
difference_no_zero a b e = within_no_zero (a -ℤ b) e

pub product_no_zero : (a b : ℤ) → product_down a b ≡ Err ZeroDivisor → ⊥
product_no_zero a b e = within_no_zero (floor (a *ℤ b) unit) e

pub interval_sum_no_zero : (a b : Interval) → interval_sum a b ≡ Err ZeroDivisor → ⊥
interval_sum_no_zero a b e = ends_no_zero (a.lo +ℤ b.lo) (a.hi +ℤ b.hi) e

pub interval_difference_no_zero : (a b : Interval) → interval_difference a b ≡ Err ZeroDivisor → ⊥
interval_difference_no_zero a b e = ends_no_zero (a.lo -ℤ b.hi) (a.hi -ℤ b.lo) e

pub interval_product_no_zero : (a b : Interval) → interval_product a b ≡ Err ZeroDivisor → ⊥
interval_product_no_zero a b e =
    ends_no_zero (floor (of_ends least (λ x y. x *ℤ y) a b) unit) (ceiling (of_ends greatest (λ x y. x *ℤ y) a b) unit) e
