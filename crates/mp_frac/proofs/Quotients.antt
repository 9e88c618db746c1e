-- Quotients of whole numbers.
use Rattle.std.proofs.Common.{◌≡◌, ℕ, ℤ, pos, ◌*◌, ◌<◌, ◌*ℤ◌, ap, arith, sym, ◌∙◌, refl, Bool, true, false, Some, Err, ◌↔◌}
use Rattle.std.specs.Prelude.{not, ◌<ℤ◌}
use mathlib.Core.Bool.{beq}
use Rattle.std.specs.Int.RustNames.{unsigned_abs}
use Rattle.mp_integer.specs.Sign.{signed}
use Rattle.mp_integer.proofs.Signs.{signed-*ℤ, signed-*ℤ_pos, signed-unsigned_abs}
use Rattle.mp_rational.specs.Fraction.{Fraction, inv, div, whole, is_zero, ratio_of}
use Rattle.mp_rational.proofs.Laws.{div_unique, div-nought, div_is, nought_from}
use Rattle.mp_rational.proofs.Ratios.{ratio_equal, mul-ratio_of, zero-ratio_of}
use Rattle.mp_frac.specs.Stated.{reduced, reduced_quotient, ratio_outcome, product_outcome, quotient_outcome}
use Rattle.mp_frac.specs.declared.fault.FracFault.TheVariants.{ZeroDivisor}

-- a sign that is changed twice
sign_back : (s t : Bool) → not (beq (not (beq s t)) t) ≡ s
sign_back true true = refl
sign_back true false = refl
sign_back false true = refl
sign_back false false = refl

pub not_zero-ratio_of : (n : ℤ) (d : ℕ) → 0 < d → (n ≡ pos 0 → ⊥) → is_zero (ratio_of n d) ≡ false
not_zero-ratio_of n d p ne = by (is_zero (ratio_of n d)) refl
  where
    by : (v : Bool) → is_zero (ratio_of n d) ≡ v → is_zero (ratio_of n d) ≡ false
    by false e = e
    by true e = absurd (ne ((zero-ratio_of n d p).0 e))

-- the quotient of two whole numbers, by their signs and magnitudes
div-signed : (s t : Bool) (m k : ℕ) → 0 < k → (signed t k ≡ pos 0 → ⊥)
    → div (whole (signed s m)) (whole (signed t k)) ≡ Some (ratio_of (signed (not (beq s t)) m) k)
div-signed s t m k p ne =
    div_unique (whole (signed s m)) (whole (signed t k)) (ratio_of (signed (not (beq s t)) m) k)
    (not_zero-ratio_of (signed t k) 1 (omega arith) ne)
    (mul-ratio_of (signed (not (beq s t)) m) (signed t k) k 1 p (omega arith)
    ∙ ratio_equal (signed (not (beq s t)) m *ℤ signed t k) (signed s m) (k * 1) 1 (omega (arith, p)) (omega arith)
    (ap (λ (z : ℤ). z *ℤ pos 1) (signed-*ℤ (not (beq s t)) t m k ∙ ap (λ (b : Bool). signed b (m * k)) (sign_back s t))
    ∙ signed-*ℤ_pos s (m * k) 1 ∙ ap (signed s) (omega arith) ∙ sym (signed-*ℤ_pos s m (k * 1))))

positive_magnitude : (d : ℤ) → (d ≡ pos 0 → ⊥) → 0 < unsigned_abs d
positive_magnitude d ne = grind arith

pub ratio_outcome-signed : (n d : ℤ) (s t : Bool) → ((s ≡ true) ↔ (n <ℤ pos 0)) → ((t ≡ true) ↔ (d <ℤ pos 0)) → (d ≡ pos 0 → ⊥)
    → ratio_outcome n d ≡ reduced (ratio_of (signed (not (beq s t)) (unsigned_abs n)) (unsigned_abs d))
unfolding ratio_outcome
ratio_outcome-signed n d s t h k ne =
    let en = signed-unsigned_abs s n h in
    let ed = signed-unsigned_abs t d k in
    ap reduced_quotient
    (ap (λ (z : ℤ). div (whole z) (whole d)) (sym en) ∙ ap (λ (z : ℤ). div (whole (signed s (unsigned_abs n))) (whole z)) (sym ed)
    ∙ div-signed s t (unsigned_abs n) (unsigned_abs d) (positive_magnitude d ne) (λ e. ne (sym ed ∙ e)))

pub ratio_outcome-zero : (n d : ℤ) → d ≡ pos 0 → ratio_outcome n d ≡ Err ZeroDivisor
unfolding ratio_outcome
ratio_outcome-zero n d e = ap (λ (z : ℤ). reduced_quotient (div (whole n) (whole z))) e ∙ ap reduced_quotient (div-nought (whole n))

-- a quotient multiplies by the reciprocal
pub quotient_outcome-inverse : (x y : Fraction) → is_zero y ≡ false → quotient_outcome x y ≡ product_outcome x (inv y)
unfolding quotient_outcome
quotient_outcome-inverse x y e = ap reduced_quotient (div_is x y e)

pub quotient_outcome-zero : (x y : Fraction) → is_zero y ≡ true → quotient_outcome x y ≡ Err ZeroDivisor
unfolding quotient_outcome
quotient_outcome-zero x y e = ap (λ (z : Fraction). reduced_quotient (div x z)) (nought_from y e) ∙ ap reduced_quotient (div-nought x)
