-- What the outcomes mean: an answer is the operation of arithmetic, and each fault has its cause.
use Rattle.std.proofs.Common.{◌≡◌, ◌≢◌, ℕ, suc, zero, ℤ, pos, negsuc, ◌<◌, ap, arith, sym, ◌∙◌, refl, Bool, true, false, [], ◌∷◌, leb, Option, Some, None, Ok, Err, ◌↔◌, ◌⊎◌, inl, inr}
use Rattle.std.specs.Prelude.{◌&&◌, if◌then◌else◌, ◌<ℤ◌}
use Rattle.std.specs.Int.RustNames.{unsigned_abs}
use Rattle.std.proofs.lemmas.Int.{ints}
use Rattle.std.proofs.lemmas.Bool.{leb-false}
use Rattle.std.proofs.lemmas.Nat.Gcd.{IsGcd-swap, IsGcd-from_zero}
use Rattle.mp_rational.specs.Fraction.{Fraction, add, sub, mul, neg, div, is_zero, whole, nought, one, power, power_nat}
use Rattle.mp_rational.specs.Lowest.{numerator, denominator}
use Rattle.mp_rational.proofs.Laws.{div_is, div-nought, nought_is, nought_from, mul-nought}
use Rattle.mp_rational.proofs.Powers.{power_nat-ne-nought}
use Rattle.mp_rational.proofs.Ratios.{zero-ratio_of}
use Rattle.mp_frac.specs.Limit.{limit}
use Rattle.mp_frac.specs.Stated.{Outcome, after, lowest_parts, stated_parts, reduced, reduced_quotient, sum_outcome, difference_outcome, product_outcome, quotient_outcome, product_times, power_outcome, ratio_outcome}
use Rattle.mp_frac.specs.declared.fault.FracFault.TheVariants.{Overflow, ZeroDivisor}
use Rattle.mp_frac.proofs.Outcomes.{within, within-past, within-skip, unless_past-past, reduced-within}

answer_by : (v : Bool) (x z : Fraction) → ◌≡◌ {A = Outcome} (if v then (Ok x) else (Err Overflow)) (Ok z) → z ≡ x
answer_by true x z e = cc
answer_by false x z e = cc

not_zero_by : (v : Bool) (x : Fraction) → ◌≡◌ {A = Outcome} (if v then (Ok x) else (Err Overflow)) (Err ZeroDivisor) → ⊥
not_zero_by true x e = cc
not_zero_by false x e = cc

overflow_by : (v : Bool) (x : Fraction) → ◌≡◌ {A = Outcome} (if v then (Ok x) else (Err Overflow)) (Err Overflow) → v ≡ false
overflow_by true x e = cc
overflow_by false x e = refl

reduced-ok : (x z : Fraction) → reduced x ≡ Ok z → z ≡ x
unfolding reduced
reduced-ok x z e = answer_by (within (lowest_parts x)) x z e

reduced-not_by_zero : (x : Fraction) → reduced x ≢ Err ZeroDivisor
unfolding reduced
reduced-not_by_zero x e = not_zero_by (within (lowest_parts x)) x e

pub sum_outcome-ok : (x y z : Fraction) → sum_outcome x y ≡ Ok z → z ≡ add x y
unfolding sum_outcome
sum_outcome-ok x y z e =
    answer_by (within (stated_parts (numerator x) (denominator x) (numerator y) (denominator y))) (add x y) z e

pub sum_outcome-not_by_zero : (x y : Fraction) → sum_outcome x y ≢ Err ZeroDivisor
unfolding sum_outcome
sum_outcome-not_by_zero x y e =
    not_zero_by (within (stated_parts (numerator x) (denominator x) (numerator y) (denominator y))) (add x y) e

pub difference_outcome-ok : (x y z : Fraction) → difference_outcome x y ≡ Ok z → z ≡ sub x y
difference_outcome-ok x y z e = sum_outcome-ok x (neg y) z e

pub product_outcome-ok : (x y z : Fraction) → product_outcome x y ≡ Ok z → z ≡ mul x y
product_outcome-ok x y z e = reduced-ok (mul x y) z e

pub product_outcome-not_by_zero : (x y : Fraction) → product_outcome x y ≢ Err ZeroDivisor
product_outcome-not_by_zero x y e = reduced-not_by_zero (mul x y) e

-- one of two parts is above the limit
past_one : (n d : ℕ) → within (n ∷ d ∷ []) ≡ false → (limit < n) ⊎ (limit < d)
past_one n d e = by (leb n limit) (leb d limit) refl refl e
  where
    by : (u v : Bool) → leb n limit ≡ u → leb d limit ≡ v → (u && (v && true)) ≡ false → (limit < n) ⊎ (limit < d)
    by true true f g h = cc
    by true false f g h = inr (leb-false d limit g)
    by false v f g h = inl (leb-false n limit f)

past_two : (n d : ℕ) → (limit < n) ⊎ (limit < d) → within (n ∷ d ∷ []) ≡ false
past_two n d (inl l) = within-past n (d ∷ []) l
past_two n d (inr l) = within-skip n (d ∷ []) (within-past d [] l)

pub product_outcome-overflow : (x y : Fraction)
    → (product_outcome x y ≡ Err Overflow) ↔ ((limit < unsigned_abs (numerator (mul x y))) ⊎ (limit < denominator (mul x y)))
unfolding reduced
product_outcome-overflow x y =
    let z = mul x y in (
      λ e. past_one (unsigned_abs (numerator z)) (denominator z) (overflow_by (within (lowest_parts z)) z e),
      λ h. unless_past-past (lowest_parts z) z (past_two (unsigned_abs (numerator z)) (denominator z) h),
    )

quotient_ok : (o : Option Fraction) (z : Fraction) → reduced_quotient o ≡ Ok z → o ≡ Some z
quotient_ok None z e = cc
quotient_ok (Some x) z e = ap Some (sym (reduced-ok x z e))

quotient_by_zero : (o : Option Fraction) → reduced_quotient o ≡ Err ZeroDivisor → o ≡ None
quotient_by_zero None e = refl
quotient_by_zero (Some x) e = absurd (reduced-not_by_zero x e)

div_none : (x y : Fraction) → div x y ≡ None → y ≡ nought
div_none x y e = by (is_zero y) refl
  where
    by : (v : Bool) → is_zero y ≡ v → y ≡ nought
    by true h = nought_from y h
    by false h = let s = div_is x y h in cc (e, s)

pub ratio_outcome-ok : (n d : ℤ) (z : Fraction) → ratio_outcome n d ≡ Ok z → div (whole n) (whole d) ≡ Some z
unfolding ratio_outcome
ratio_outcome-ok n d z e = quotient_ok (div (whole n) (whole d)) z e

whole_zero : (d : ℤ) → whole d ≡ nought → d ≡ pos 0
whole_zero d e = (zero-ratio_of d 1 (omega arith)).0 (ap is_zero e ∙ nought_is)

pub ratio_outcome-by_zero : (n d : ℤ) → (ratio_outcome n d ≡ Err ZeroDivisor) ↔ (d ≡ pos 0)
unfolding ratio_outcome
ratio_outcome-by_zero n d = (
  λ e. whole_zero d (div_none (whole n) (whole d) (quotient_by_zero (div (whole n) (whole d)) e)),
  λ e. ap reduced_quotient (ap (λ (z : ℤ). div (whole n) (whole z)) e ∙ div-nought (whole n)),
)

pub quotient_outcome-ok : (x y z : Fraction) → quotient_outcome x y ≡ Ok z → div x y ≡ Some z
unfolding quotient_outcome
quotient_outcome-ok x y z e = quotient_ok (div x y) z e

pub quotient_outcome-by_zero : (x y : Fraction) → (quotient_outcome x y ≡ Err ZeroDivisor) ↔ (y ≡ nought)
unfolding quotient_outcome
quotient_outcome-by_zero x y = (
  λ e. div_none x y (quotient_by_zero (div x y) e),
  λ e. ap reduced_quotient (ap (div x) e ∙ div-nought x),
)

after_ok : (o : Outcome) (next : Fraction → Outcome) (z : Fraction) → after o next ≡ Ok z → (p : Fraction) × (o ≡ Ok p) × (next p ≡ Ok z)
after_ok (Ok p) next z e = (p, refl, e)
after_ok (Err f) next z e = cc

product_times-ok : (x z : Fraction) (n : ℕ) → product_times x n ≡ Ok z → z ≡ power_nat x n
unfolding product_times
product_times-ok x z zero e = cc
product_times-ok x z (suc n) e =
    let h = after_ok (product_times x n) (λ p. product_outcome p x) z e in
    product_outcome-ok h.0 x z h.2 ∙ ap (λ (p : Fraction). mul p x) (product_times-ok x h.0 n h.1)

pub power_outcome-ok : (x z : Fraction) (k : ℤ) → power_outcome x k ≡ Ok z → power x k ≡ Some z
unfolding power_outcome
power_outcome-ok x z (pos n) e = ap Some (sym (product_times-ok x z n e))
power_outcome-ok x z (negsuc n) e =
    let h = after_ok (product_times x (suc n)) (λ p. quotient_outcome one p) z e in
    ap (div one) (sym (product_times-ok x h.0 (suc n) h.1)) ∙ quotient_outcome-ok one h.0 z h.2

after_zero : (o : Outcome) (next : Fraction → Outcome) → (o ≡ Err ZeroDivisor → ⊥) → after o next ≡ Err ZeroDivisor
    → (p : Fraction) × (o ≡ Ok p) × (next p ≡ Err ZeroDivisor)
after_zero (Ok p) next n e = (p, refl, e)
after_zero (Err f) next n e = absurd (n e)

product_times-not_by_zero : (x : Fraction) (n : ℕ) → product_times x n ≡ Err ZeroDivisor → ⊥
unfolding product_times
product_times-not_by_zero x zero e = cc
product_times-not_by_zero x (suc n) e =
    let h = after_zero (product_times x n) (λ p. product_outcome p x) (product_times-not_by_zero x n) e in
    product_outcome-not_by_zero h.0 x h.2

-- powers of 0
reduced-nought : reduced nought ≡ Ok nought
reduced-nought = reduced-within false 0 1 (omega arith) (IsGcd-swap 1 0 1 (IsGcd-from_zero 1 0 refl)) (omega arith) (omega arith)

times_nought : (o : Outcome) → (p : Fraction) × (o ≡ Ok p) → after o (λ p. product_outcome p nought) ≡ Ok nought
times_nought o h = ap (λ (u : Outcome). after u (λ p. product_outcome p nought)) h.1 ∙ ap reduced (mul-nought h.0) ∙ reduced-nought

product_times-nought : (n : ℕ) → (p : Fraction) × (product_times nought n ≡ Ok p)
unfolding product_times
product_times-nought zero = (one, refl)
product_times-nought (suc n) = (nought, times_nought (product_times nought n) (product_times-nought n))

zero_power : (n : ℕ) → power_outcome nought (negsuc n) ≡ Err ZeroDivisor
unfolding power_outcome product_times
zero_power n =
    ap (λ (o : Outcome). after o (λ p. quotient_outcome one p)) (times_nought (product_times nought n) (product_times-nought n))
    ∙ (quotient_outcome-by_zero one nought).1 refl

-- a base whose power is 0 is 0
base_nought : (x : Fraction) (n : ℕ) → power_nat x n ≡ nought → x ≡ nought
base_nought x n e = by (is_zero x) refl
  where
    by : (v : Bool) → is_zero x ≡ v → x ≡ nought
    by true h = nought_from x h
    by false h = let ne = power_nat-ne-nought x n h in cc (ap is_zero e, ne, nought_is)

power_only : (x : Fraction) (k : ℤ) → power_outcome x k ≡ Err ZeroDivisor → (x ≡ nought) × (k <ℤ pos 0)
unfolding power_outcome
power_only x (pos n) e = absurd (product_times-not_by_zero x n e)
power_only x (negsuc n) e =
    let h = after_zero (product_times x (suc n)) (λ p. quotient_outcome one p) (product_times-not_by_zero x (suc n)) e in
    let zero_is = (quotient_outcome-by_zero one h.0).0 h.2 in
    (base_nought x (suc n) (sym (product_times-ok x h.0 (suc n) h.1) ∙ zero_is), omega (arith, ints))

power_there : (x : Fraction) (k : ℤ) → (x ≡ nought) × (k <ℤ pos 0) → power_outcome x k ≡ Err ZeroDivisor
power_there x (pos n) h = absurd (omega (arith, ints, h.1))
power_there x (negsuc n) h = ap (λ (u : Fraction). power_outcome u (negsuc n)) h.0 ∙ zero_power n

pub power_outcome-by_zero : (x : Fraction) (k : ℤ) → (power_outcome x k ≡ Err ZeroDivisor) ↔ ((x ≡ nought) × (k <ℤ pos 0))
power_outcome-by_zero x k = (power_only x k, power_there x k)
