-- The value of a `Frac`, and its parts.
use Rattle.std.proofs.Common.{◌≡◌, ℕ, ℤ, ◌<◌, ◌≤◌, ap, sym, ◌∙◌, subst}
use Rattle.std.proofs.Math.Bridge.{le_prop}
use Rattle.std.specs.Int.{IsGcd}
use Rattle.std.specs.Int.RustNames.{unsigned_abs}
use Rattle.mp_rational.specs.Fraction.{ratio_of}
use Rattle.mp_rational.specs.Lowest.{numerator, denominator}
use Rattle.mp_rational.proofs.Lowest.{numerator-ratio_of, denominator-ratio_of, denominator_positive, parts_coprime}
use Rattle.mp_frac.specs.Limit.{limit}
use Rattle.mp_frac.specs.Value.{value_of}
use Rattle.mp_frac.specs.declared.frac.Frac.{Frac}

-- the value of a `Frac` whose parts are known
pub value_by : (f : Frac) {n : ℤ} {d : ℕ} → f.num ≡ n → f.den ≡ d → value_of f ≡ ratio_of n d
value_by f {n} {d} e h = ap (λ (m : ℤ). ratio_of m f.den) e ∙ ap (ratio_of n) h

pub numerator-value_of : (f : Frac) → numerator (value_of f) ≡ f.num
numerator-value_of f = numerator-ratio_of f.num f.den f.positive f.coprime

pub denominator-value_of : (f : Frac) → denominator (value_of f) ≡ f.den
denominator-value_of f = denominator-ratio_of f.num f.den f.positive f.coprime

make : (n : ℤ) (d : ℕ) → 0 < d → unsigned_abs n ≤ limit → d ≤ limit → IsGcd (unsigned_abs n) d 1 → Frac
make n d p s t c = record { num = n; den = d; positive = p; num_small = s; den_small = t; coprime = c }

gcd_prop : (a b g : ℕ) → IsProp (IsGcd a b g)
gcd_prop a b g = hlevel

-- the facts of a `Frac` have one proof each
same_facts : (n : ℤ) (d : ℕ) (p p' : 0 < d) (s s' : unsigned_abs n ≤ limit) (t t' : d ≤ limit) (c c' : IsGcd (unsigned_abs n) d 1)
    → make n d p s t c ≡ make n d p' s' t' c'
unfolding make
same_facts n d p p' s s' t t' c c' =
    ap (λ (x : 0 < d). make n d x s t c) (le_prop p p')
    ∙ ap (λ (x : unsigned_abs n ≤ limit). make n d p' x t c) (le_prop s s')
    ∙ ap (λ (x : d ≤ limit). make n d p' s' x c) (le_prop t t')
    ∙ ap (λ (x : IsGcd (unsigned_abs n) d 1). make n d p' s' t' x) (gcd_prop (unsigned_abs n) d 1 c c')

same_denominator : (f : Frac) (d : ℕ) → f.den ≡ d → (p : 0 < d) (s : unsigned_abs f.num ≤ limit) (t : d ≤ limit) (c : IsGcd (unsigned_abs f.num) d 1)
    → f ≡ make f.num d p s t c
unfolding make
same_denominator f d e =
    let P : ℕ → Type 0 = λ d. (p : 0 < d) (s : unsigned_abs f.num ≤ limit) (t : d ≤ limit) (c : IsGcd (unsigned_abs f.num) d 1) → f ≡ make f.num d p s t c in
    subst P e (λ p s t c. same_facts f.num f.den f.positive p f.num_small s f.den_small t f.coprime c)

same_numerator : (f : Frac) (n : ℤ) (d : ℕ) → f.num ≡ n → f.den ≡ d → (p : 0 < d) (s : unsigned_abs n ≤ limit) (t : d ≤ limit) (c : IsGcd (unsigned_abs n) d 1)
    → f ≡ make n d p s t c
same_numerator f n d e h =
    let P : ℤ → Type 0 = λ n. (p : 0 < d) (s : unsigned_abs n ≤ limit) (t : d ≤ limit) (c : IsGcd (unsigned_abs n) d 1) → f ≡ make n d p s t c in
    subst P e (same_denominator f d h)

-- equal values are equal fractions in lowest terms
pub equal_from_values : (f g : Frac) → value_of f ≡ value_of g → f ≡ g
unfolding make
equal_from_values f g e =
    same_numerator f g.num g.den (sym (numerator-value_of f) ∙ ap numerator e ∙ numerator-value_of g)
    (sym (denominator-value_of f) ∙ ap denominator e ∙ denominator-value_of g) g.positive g.num_small g.den_small g.coprime

pub positive_value : (f : Frac) → 0 < denominator (value_of f)
positive_value f = denominator_positive (value_of f)

pub coprime_value : (f : Frac) → IsGcd (unsigned_abs (numerator (value_of f))) (denominator (value_of f)) 1
coprime_value f = parts_coprime (value_of f)

pub numerator_within : (f : Frac) → unsigned_abs (numerator (value_of f)) ≤ limit
numerator_within f = subst (λ (n : ℤ). unsigned_abs n ≤ limit) (sym (numerator-value_of f)) f.num_small

pub denominator_within : (f : Frac) → denominator (value_of f) ≤ limit
denominator_within f = subst (λ (n : ℕ). n ≤ limit) (sym (denominator-value_of f)) f.den_small
