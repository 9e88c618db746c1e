-- Powers of ten, and fractions that are whole.
use Rattle.std.proofs.Common.{◌≡◌, ℕ, ℤ, pos, ◌^◌, ◌<◌, ◌≤◌, lit<, Bool, true, false, ◌&&◌, cond, Some, None, sym, ap, ◌∙◌, arith, refl}
use Rattle.std.specs.Ordering.{int_eq}
use Rattle.std.proofs.Math.Nat.{pow-le-pow_right, one-le-pow}
use Rattle.std.proofs.lemmas.Bool.Decides.{Decides-int_eq}
use Rattle.mp_rational.specs.Fraction.{Fraction, ratio_of, whole}
use Rattle.mp_rational.specs.Lowest.{numerator, denominator}
use Rattle.mp_rational.proofs.Lowest.{ratio_of-parts}
use Rattle.std.specs.Prelude.{nat_le}
use Rattle.std.specs.Int.RustNames.{unsigned_abs}
use Rattle.mp_fold.specs.Near.{near_of}

pub ten_power : (s : ℕ) → s ≤ 37 → 10 ^ s ≤ 10 ^ 37
ten_power s h = pow-le-pow_right (lit< tt) h

pub ten_power-positive : (s : ℕ) → 0 < 10 ^ s
ten_power-positive s = omega (arith, one-le-pow s 10 (lit< tt))

near_by : (n k : ℤ) (a b : Bool) → Some k ≡ cond (a && b) (Some n) None → (a ≡ true) × (n ≡ k)
near_by n k true true e = (refl, cc)
near_by n k true false e = absurd cc
near_by n k false b e = absurd cc

-- a fraction whose parts are those of a near whole number
pub whole_by : (x : Fraction) (n d k : ℤ) → n ≡ numerator x → d ≡ pos (denominator x) → Some k ≡ near_of n d → x ≡ whole k
whole_by x n d k top bottom near =
    let two = near_by n k (int_eq d (pos 1)) (nat_le (unsigned_abs n) 16) near in
    let one : pos (denominator x) ≡ pos 1 = sym bottom ∙ (Decides-int_eq d (pos 1)).0 two.0 in
    let e : denominator x ≡ 1 = cc in
    sym (ratio_of-parts x) ∙ ap (λ (m : ℤ). ratio_of m (denominator x)) (sym top ∙ two.1) ∙ ap (ratio_of k) e
