-- Products in lowest terms: each numerator is divided by what it has in common with the other denominator.
use Rattle.std.proofs.Common.{◌≡◌, ℕ, ℤ, pos, ◌*◌, ◌/◌, ◌<◌, ap, arith, sym, ◌∙◌, subst, Bool, true, ◌↔◌, ◌⊎◌, Err}
use Rattle.std.specs.Prelude.{not, ◌<ℤ◌}
use mathlib.Core.Bool.{beq}
use Rattle.std.specs.Int.{IsGcd, ◌∣◌}
use Rattle.std.specs.Int.RustNames.{unsigned_abs}
use Rattle.std.proofs.Math.Nat.{div-mul_cancel, dvd-mul_right, mul-pos}
use Rattle.std.proofs.lemmas.Nat.Gcd.{IsGcd-swap}
use Rattle.mp_integer.specs.Sign.{signed}
use Rattle.mp_integer.proofs.Signs.{signed-*ℤ, signed-*ℤ_pos, signed-unsigned_abs, negative, signed-negative}
use Rattle.mp_integer.proofs.Divisors.{quotient_positive, quotients_coprime, coprime-mul, coprime_divisor}
use Rattle.mp_rational.specs.Fraction.{mul, ratio_of}
use Rattle.mp_rational.proofs.Ratios.{ratio_equal, mul-ratio_of}
use Rattle.mp_frac.specs.Limit.{limit}
use Rattle.mp_frac.specs.Stated.{reduced, product_outcome}
use Rattle.mp_frac.specs.Value.{value_of}
use Rattle.mp_frac.specs.declared.frac.Frac.{Frac}
use Rattle.mp_frac.specs.declared.fault.FracFault.TheVariants.{Overflow}
use Rattle.mp_frac.proofs.Outcomes.{reduced-past}

quotient_divides : (a g : ℕ) → g ∣ a → a / g ∣ a
quotient_divides a g h = subst (λ (n : ℕ). a / g ∣ n) (div-mul_cancel g h) (dvd-mul_right (a / g) g)

-- quotients of numbers without common divisor have none
quotients_apart : (a b g h : ℕ) → IsGcd a b 1 → g ∣ a → h ∣ b → IsGcd (a / g) (b / h) 1
quotients_apart a b g h c u v =
    coprime_divisor (a / g) a (b / h) (quotient_divides a g u)
    (IsGcd-swap (b / h) a 1 (coprime_divisor (b / h) b a (quotient_divides b h v) (IsGcd-swap a b 1 c)))

pub cross_coprime : (m d k e g h : ℕ) → 0 < d → 0 < e → IsGcd m d 1 → IsGcd k e 1 → IsGcd m e g → IsGcd k d h
    → IsGcd ((m / g) * (k / h)) ((d / h) * (e / g)) 1
cross_coprime m d k e g h pd pe x y i j =
    let a = m / g in
    let b = k / h in
    let u = d / h in
    let v = e / g in
    let with_u = coprime-mul a b u (quotients_apart m d g h x i.0 j.1) (quotients_coprime k d h pd j) in
    let with_v = coprime-mul a b v (quotients_coprime m e g pe i) (quotients_apart k e h g y j.0 i.1) in
    IsGcd-swap (u * v) (a * b) 1 (coprime-mul u v (a * b) (IsGcd-swap (a * b) u 1 with_u) (IsGcd-swap (a * b) v 1 with_v))

-- with m = a * g, e = v * g, k = b * h and d = u * h
cross_at : (m d k e g h a b u v : ℕ) → a * g ≡ m → v * g ≡ e → b * h ≡ k → u * h ≡ d → (m * k) * (u * v) ≡ (a * b) * (d * e)
cross_at m d k e g h a b u v p q r s = rw (← p, ← q, ← r, ← s) (omega arith)

cross_value : (s t : Bool) (m d k e g h : ℕ) → 0 < d → 0 < e → IsGcd m e g → IsGcd k d h
    → mul (ratio_of (signed s m) d) (ratio_of (signed t k) e) ≡ ratio_of (signed (not (beq s t)) ((m / g) * (k / h))) ((d / h) * (e / g))
cross_value s t m d k e g h pd pe i j =
    let sign = not (beq s t) in
    let top = (m / g) * (k / h) in
    let bottom = (d / h) * (e / g) in
    mul-ratio_of (signed s m) (signed t k) d e pd pe
    ∙ ap (λ (z : ℤ). ratio_of z (d * e)) (signed-*ℤ s t m k)
    ∙ ratio_equal (signed sign (m * k)) (signed sign top) (d * e) bottom (mul-pos pd pe)
    (mul-pos (quotient_positive k d h pd j) (quotient_positive m e g pe i))
    (signed-*ℤ_pos sign (m * k) bottom
    ∙ ap (signed sign)
    (cross_at m d k e g h (m / g) (k / h) (d / h) (e / g) (div-mul_cancel g i.0) (div-mul_cancel g i.1) (div-mul_cancel h j.0) (div-mul_cancel h j.1))
    ∙ sym (signed-*ℤ_pos sign top (d * e)))

-- the product of two fractions, by their signs and magnitudes
pub product_outcome-signed : (x y : Frac) (s t : Bool) (m k g h : ℕ) → x.num ≡ signed s m → y.num ≡ signed t k
    → IsGcd m y.den g → IsGcd k x.den h
    → product_outcome (value_of x) (value_of y) ≡ reduced (ratio_of (signed (not (beq s t)) ((m / g) * (k / h))) ((x.den / h) * (y.den / g)))
product_outcome-signed x y s t m k g h p q i j =
    ap reduced
    (ap (λ (z : ℤ). mul (ratio_of z x.den) (value_of y)) p ∙ ap (λ (z : ℤ). mul (ratio_of (signed s m) x.den) (ratio_of z y.den)) q
    ∙ cross_value s t m x.den k y.den g h x.positive y.positive i j)

pub product_coprime : (x y : Frac) (m k g h : ℕ) → m ≡ unsigned_abs x.num → k ≡ unsigned_abs y.num → IsGcd m y.den g → IsGcd k x.den h
    → IsGcd ((m / g) * (k / h)) ((x.den / h) * (y.den / g)) 1
product_coprime x y m k g h p q i j =
    let c = subst (λ (n : ℕ). IsGcd n x.den 1) (sym p) x.coprime in
    let d = subst (λ (n : ℕ). IsGcd n y.den 1) (sym q) y.coprime in
    cross_coprime m x.den k y.den g h x.positive y.positive c d i j

pub product_positive : (x y : Frac) (m k g h : ℕ) → IsGcd m y.den g → IsGcd k x.den h → 0 < (x.den / h) * (y.den / g)
product_positive x y m k g h i j = mul-pos (quotient_positive k x.den h x.positive j) (quotient_positive m y.den g y.positive i)

-- the product is refused by a part in lowest terms
pub product_past : (x y : Frac) (m k g h : ℕ) → m ≡ unsigned_abs x.num → k ≡ unsigned_abs y.num → IsGcd m y.den g → IsGcd k x.den h
    → (limit < (m / g) * (k / h)) ⊎ (limit < (x.den / h) * (y.den / g)) → product_outcome (value_of x) (value_of y) ≡ Err Overflow
product_past x y m k g h p q i j l =
    let s = negative x.num in
    let t = negative y.num in
    product_outcome-signed x y s t m k g h (sym (ap (signed s) p ∙ signed-negative x.num)) (sym (ap (signed t) q ∙ signed-negative y.num)) i j
    ∙ reduced-past (not (beq s t)) ((m / g) * (k / h)) ((x.den / h) * (y.den / g))
    (product_positive x y m k g h i j) (product_coprime x y m k g h p q i j) l

-- the sign and the magnitude that the code finds
pub signed_by : (z : ℤ) (s : Bool) (m : ℕ) → ((s ≡ true) ↔ (z <ℤ pos 0)) → m ≡ unsigned_abs z → z ≡ signed s m
signed_by z s m h e = sym (ap (signed s) e ∙ signed-unsigned_abs s z h)
