-- Sums over the least common denominator.
use Rattle.std.proofs.Common.{◌≡◌, ℕ, ℤ, pos, ◌*◌, ◌/◌, ◌<◌, ◌≤◌, ◌+ℤ◌, ◌*ℤ◌, ap, arith, sym, ◌∙◌, refl, List, [], ◌∷◌, true, false, Ok, Err}
use Rattle.std.specs.Int.{IsGcd}
use Rattle.std.specs.Int.RustNames.{unsigned_abs}
use Rattle.std.proofs.Math.Nat.{div-mul_cancel, mul-pos}
use Rattle.mp_integer.proofs.Differences.{diff, is_diff, diffs, diff_eq}
use Rattle.mp_integer.proofs.Divisors.{gcd_is, quotient_positive}
use Rattle.mp_rational.specs.Fraction.{add, ratio_of}
use Rattle.mp_rational.specs.Lowest.{numerator, denominator}
use Rattle.mp_rational.proofs.Ratios.{ratio_equal, add-ratio_of}
use Rattle.mp_frac.specs.Limit.{limit}
use Rattle.mp_frac.specs.Stated.{unless_past, stated_parts, sum_outcome}
use Rattle.mp_frac.specs.Value.{value_of}
use Rattle.mp_frac.specs.declared.frac.Frac.{Frac}
use Rattle.mp_frac.specs.declared.fault.FracFault.TheVariants.{Overflow}
use Rattle.mp_frac.proofs.Outcomes.{within, within-cons, within-past, within-skip, unless_past-within, unless_past-past}
use Rattle.mp_frac.proofs.Values.{numerator-value_of, denominator-value_of}

-- the sum over the least common denominator, with the greatest common divisor g
abbrev pub total : ℕ → ℤ → ℕ → ℤ → ℕ → ℤ
total g n d m e = (n *ℤ pos (e / g)) +ℤ (m *ℤ pos (d / g))

-- the stated parts, with the greatest common divisor g
abbrev pub parts_by : ℕ → ℤ → ℕ → ℤ → ℕ → List ℕ
parts_by g n d m e =
    unsigned_abs (n *ℤ pos (e / g)) ∷ unsigned_abs (m *ℤ pos (d / g)) ∷ unsigned_abs (total g n d m e) ∷ d * (e / g) ∷ []

sum_by : (x y : Frac) (g : ℕ) → IsGcd x.den y.den g
    → sum_outcome (value_of x) (value_of y) ≡ unless_past (parts_by g x.num x.den y.num y.den) (add (value_of x) (value_of y))
unfolding sum_outcome
sum_by x y g h =
    let z = add (value_of x) (value_of y) in
    ap (λ (n : ℤ). unless_past (stated_parts n (denominator (value_of x)) (numerator (value_of y)) (denominator (value_of y))) z) (numerator-value_of x)
    ∙ ap (λ (d : ℕ). unless_past (stated_parts x.num d (numerator (value_of y)) (denominator (value_of y))) z) (denominator-value_of x)
    ∙ ap (λ (m : ℤ). unless_past (stated_parts x.num x.den m (denominator (value_of y))) z) (numerator-value_of y)
    ∙ ap (λ (e : ℕ). unless_past (stated_parts x.num x.den y.num e) z) (denominator-value_of y)
    ∙ ap (λ (k : ℕ). unless_past (parts_by k x.num x.den y.num y.den) z) (gcd_is x.den y.den g y.positive h)

sum_past : (x y : Frac) (g : ℕ) → IsGcd x.den y.den g → within (parts_by g x.num x.den y.num y.den) ≡ false
    → sum_outcome (value_of x) (value_of y) ≡ Err Overflow
sum_past x y g h e = sum_by x y g h ∙ unless_past-past (parts_by g x.num x.den y.num y.den) (add (value_of x) (value_of y)) e

-- the sum is refused by each of its stated parts
pub past_left : (x y : Frac) (g : ℕ) → IsGcd x.den y.den g → limit < unsigned_abs (x.num *ℤ pos (y.den / g))
    → sum_outcome (value_of x) (value_of y) ≡ Err Overflow
past_left x y g h l =
    let left = unsigned_abs (x.num *ℤ pos (y.den / g)) in
    let right = unsigned_abs (y.num *ℤ pos (x.den / g)) in
    let sum = unsigned_abs (total g x.num x.den y.num y.den) in
    sum_past x y g h (within-past left (right ∷ sum ∷ x.den * (y.den / g) ∷ []) l)

pub past_right : (x y : Frac) (g : ℕ) → IsGcd x.den y.den g → limit < unsigned_abs (y.num *ℤ pos (x.den / g))
    → sum_outcome (value_of x) (value_of y) ≡ Err Overflow
past_right x y g h l =
    let left = unsigned_abs (x.num *ℤ pos (y.den / g)) in
    let right = unsigned_abs (y.num *ℤ pos (x.den / g)) in
    let sum = unsigned_abs (total g x.num x.den y.num y.den) in
    let rest = sum ∷ x.den * (y.den / g) ∷ [] in
    sum_past x y g h (within-skip left (right ∷ rest) (within-past right rest l))

pub past_total : (x y : Frac) (g : ℕ) → IsGcd x.den y.den g → limit < unsigned_abs (total g x.num x.den y.num y.den)
    → sum_outcome (value_of x) (value_of y) ≡ Err Overflow
past_total x y g h l =
    let left = unsigned_abs (x.num *ℤ pos (y.den / g)) in
    let right = unsigned_abs (y.num *ℤ pos (x.den / g)) in
    let sum = unsigned_abs (total g x.num x.den y.num y.den) in
    let rest = x.den * (y.den / g) ∷ [] in
    sum_past x y g h (within-skip left (right ∷ sum ∷ rest) (within-skip right (sum ∷ rest) (within-past sum rest l)))

pub past_denominator : (x y : Frac) (g : ℕ) → IsGcd x.den y.den g → limit < x.den * (y.den / g)
    → sum_outcome (value_of x) (value_of y) ≡ Err Overflow
past_denominator x y g h l =
    let left = unsigned_abs (x.num *ℤ pos (y.den / g)) in
    let right = unsigned_abs (y.num *ℤ pos (x.den / g)) in
    let sum = unsigned_abs (total g x.num x.den y.num y.den) in
    let den = x.den * (y.den / g) in
    sum_past x y g h
    (within-skip left (right ∷ sum ∷ den ∷ []) (within-skip right (sum ∷ den ∷ []) (within-skip sum (den ∷ []) (within-past den [] l))))

-- and by nothing else
pub sum_outcome-within : (x y : Frac) (g : ℕ) → IsGcd x.den y.den g → unsigned_abs (x.num *ℤ pos (y.den / g)) ≤ limit
    → unsigned_abs (y.num *ℤ pos (x.den / g)) ≤ limit → unsigned_abs (total g x.num x.den y.num y.den) ≤ limit → x.den * (y.den / g) ≤ limit
    → sum_outcome (value_of x) (value_of y) ≡ Ok (add (value_of x) (value_of y))
sum_outcome-within x y g h l r t k =
    let left = unsigned_abs (x.num *ℤ pos (y.den / g)) in
    let right = unsigned_abs (y.num *ℤ pos (x.den / g)) in
    let sum = unsigned_abs (total g x.num x.den y.num y.den) in
    let den = x.den * (y.den / g) in
    sum_by x y g h
    ∙ unless_past-within (parts_by g x.num x.den y.num y.den) (add (value_of x) (value_of y))
    (within-cons left (right ∷ sum ∷ den ∷ []) true l
    (within-cons right (sum ∷ den ∷ []) true r (within-cons sum (den ∷ []) true t (within-cons den [] true k refl))))

-- with d = r * g and e = q * g
total_at : (p m p' m' q r g : ℕ)
    → ((diff p m *ℤ pos q) +ℤ (diff p' m' *ℤ pos r)) *ℤ pos ((r * g) * (q * g))
    ≡ ((diff p m *ℤ pos (q * g)) +ℤ (diff p' m' *ℤ pos (r * g))) *ℤ pos ((r * g) * q)
total_at p m p' m' q r g = simp diffs (diff_eq _ _ _ _ (omega arith))

total_over : (n m : ℤ) (d e q r g : ℕ) → q * g ≡ e → r * g ≡ d
    → ((n *ℤ pos q) +ℤ (m *ℤ pos r)) *ℤ pos (d * e) ≡ ((n *ℤ pos e) +ℤ (m *ℤ pos d)) *ℤ pos (d * q)
total_over n m d e q r g u v = rw (← u, ← v) (rw (is_diff n, is_diff m) (total_at _ _ _ _ q r g))

pub total_value : (n m : ℤ) (d e g : ℕ) → 0 < d → 0 < e → IsGcd d e g
    → ratio_of (total g n d m e) (d * (e / g)) ≡ add (ratio_of n d) (ratio_of m e)
total_value n m d e g p q h =
    ratio_equal (total g n d m e) ((n *ℤ pos e) +ℤ (m *ℤ pos d)) (d * (e / g)) (d * e) (mul-pos p (quotient_positive d e g q h)) (mul-pos p q)
    (total_over n m d e (e / g) (d / g) g (div-mul_cancel g h.1) (div-mul_cancel g h.0))
    ∙ sym (add-ratio_of n m d e p q)
