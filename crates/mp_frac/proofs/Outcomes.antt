-- When an operation is refused, and when not.
use Rattle.std.proofs.Common.{◌≡◌, ℕ, ℤ, ◌*◌, ◌/◌, ◌<◌, ◌≤◌, ap, arith, sym, ◌∙◌, refl, List, [], ◌∷◌, Bool, true, false, leb, Ok, Err, ◌⊎◌, inl, inr}
use Rattle.std.specs.Prelude.{nat_le, if◌then◌else◌, ◌&&◌}
use Rattle.std.specs.List.{list_all}
use Rattle.std.specs.Int.{IsGcd}
use Rattle.std.specs.Int.RustNames.{unsigned_abs}
use Rattle.std.proofs.lemmas.Bool.{le-leb, lt-leb}
use Rattle.std.proofs.Math.Nat.{div-mul_cancel, div-le_self}
use Rattle.mp_integer.specs.Gcd.{gcd}
use Rattle.mp_integer.specs.Sign.{signed}
use Rattle.mp_integer.proofs.Signs.{unsigned_abs-signed, signed-*ℤ_pos}
use Rattle.mp_integer.proofs.Divisors.{quotient_positive, quotients_coprime, IsGcd-gcd}
use Rattle.mp_rational.specs.Fraction.{Fraction, ratio_of}
use Rattle.mp_rational.specs.Lowest.{denominator}
use Rattle.mp_rational.proofs.Lowest.{numerator-ratio_of, denominator-ratio_of}
use Rattle.mp_rational.proofs.Ratios.{ratio_equal}
use Rattle.mp_frac.specs.Limit.{limit}
use Rattle.mp_frac.specs.Stated.{unless_past, lowest_parts, reduced}
use Rattle.mp_frac.specs.declared.fault.FracFault.TheVariants.{Overflow}

-- whether no part is above the limit
abbrev pub within : List ℕ → Bool
within parts = list_all (λ n. nat_le n limit) parts

pub within-cons : (n : ℕ) (parts : List ℕ) (v : Bool) → n ≤ limit → within parts ≡ v → within (n ∷ parts) ≡ v
within-cons n parts v l e = ap (λ (b : Bool). b && within parts) (le-leb n limit l) ∙ e

pub within-past : (n : ℕ) (parts : List ℕ) → limit < n → within (n ∷ parts) ≡ false
within-past n parts l = ap (λ (b : Bool). b && within parts) (lt-leb n limit l)

-- a part that is not the first
pub within-skip : (n : ℕ) (parts : List ℕ) → within parts ≡ false → within (n ∷ parts) ≡ false
within-skip n parts e = by (leb n limit)
  where
    by : (v : Bool) → (v && within parts) ≡ false
    by true = e
    by false = refl

pub unless_past-within : (parts : List ℕ) (x : Fraction) → within parts ≡ true → unless_past parts x ≡ Ok x
unless_past-within parts x e = ap (λ (b : Bool). if b then (Ok x) else (Err Overflow)) e

pub unless_past-past : (parts : List ℕ) (x : Fraction) → within parts ≡ false → unless_past parts x ≡ Err Overflow
unless_past-past parts x e = ap (λ (b : Bool). if b then (Ok x) else (Err Overflow)) e

-- the parts of a fraction without common divisor are its own
pub lowest_parts-coprime : (b : Bool) (n d : ℕ) → 0 < d → IsGcd n d 1 → lowest_parts (ratio_of (signed b n) d) ≡ n ∷ d ∷ []
lowest_parts-coprime b n d p g =
    let e = unsigned_abs-signed b n in
    let g' : IsGcd (unsigned_abs (signed b n)) d 1 = rw e g in
    ap (λ (z : ℤ). unsigned_abs z ∷ denominator (ratio_of (signed b n) d) ∷ []) (numerator-ratio_of (signed b n) d p g')
    ∙ ap (λ (k : ℕ). unsigned_abs (signed b n) ∷ k ∷ []) (denominator-ratio_of (signed b n) d p g')
    ∙ ap (λ (m : ℕ). m ∷ d ∷ []) e

pub reduced-within : (b : Bool) (n d : ℕ) → 0 < d → IsGcd n d 1 → n ≤ limit → d ≤ limit → reduced (ratio_of (signed b n) d) ≡ Ok (ratio_of (signed b n) d)
unfolding reduced
reduced-within b n d p g l k =
    unless_past-within (lowest_parts (ratio_of (signed b n) d)) (ratio_of (signed b n) d)
    (ap within (lowest_parts-coprime b n d p g) ∙ within-cons n (d ∷ []) true l (within-cons d [] true k refl))

pub reduced-past : (b : Bool) (n d : ℕ) → 0 < d → IsGcd n d 1 → (limit < n) ⊎ (limit < d) → reduced (ratio_of (signed b n) d) ≡ Err Overflow
unfolding reduced
reduced-past b n d p g h =
    unless_past-past (lowest_parts (ratio_of (signed b n) d)) (ratio_of (signed b n) d)
    (ap within (lowest_parts-coprime b n d p g) ∙ past h)
  where
    past : (limit < n) ⊎ (limit < d) → within (n ∷ d ∷ []) ≡ false
    past (inl l) = within-past n (d ∷ []) l
    past (inr l) = within-skip n (d ∷ []) (within-past d [] l)

-- a common divisor may be taken out of both parts
pub ratio_by_divisor : (b : Bool) (n d g : ℕ) → 0 < d → IsGcd n d g → ratio_of (signed b (n / g)) (d / g) ≡ ratio_of (signed b n) d
ratio_by_divisor b n d g p h =
    let e = div-mul_cancel g h.0 in
    let f = div-mul_cancel g h.1 in
    ratio_equal (signed b (n / g)) (signed b n) (d / g) d (quotient_positive n d g p h) p
    (signed-*ℤ_pos b (n / g) d
    ∙ ap (signed b) (omega (arith, ap (λ (x : ℕ). x * (d / g)) e, ap (λ (x : ℕ). n / g * x) f))
    ∙ sym (signed-*ℤ_pos b n (d / g)))

-- parts within the limit stay within it when they are reduced
pub reduced-below : (b : Bool) (n d : ℕ) → 0 < d → n ≤ limit → d ≤ limit → reduced (ratio_of (signed b n) d) ≡ Ok (ratio_of (signed b n) d)
reduced-below b n d p l k =
    let g = gcd n d in
    let i = IsGcd-gcd n d p in
    let e = ratio_by_divisor b n d g p i in
    ap reduced (sym e)
    ∙ reduced-within b (n / g) (d / g) (quotient_positive n d g p i) (quotients_coprime n d g p i)
    (omega (arith, div-le_self n g)) (omega (arith, div-le_self d g))
    ∙ ap Ok e
