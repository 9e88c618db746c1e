use Rattle.std.proofs.Common.{◌≡◌, ℕ, ℤ, pos, ◌/◌, ◌<◌, ◌≤◌, ◌+ℤ◌, ◌*ℤ◌, ap, sym, ◌∙◌, arith, subst, Bool, true, Ok, ◌↔◌}
use Rattle.std.specs.Prelude.{◌<ℤ◌}
use Rattle.std.specs.Int.RustNames.{unsigned_abs}
use Rattle.std.proofs.Math.Nat.{mul-pos}
use Rattle.mp_integer.specs.Sign.{signed}
use Rattle.mp_integer.proofs.Signs.{signed-unsigned_abs}
use Rattle.mp_integer.proofs.Divisors.{quotient_positive}
use Rattle.mp_rational.specs.Fraction.{ratio_of}
use Rattle.mp_frac.specs.Limit.{limit}
use Rattle.mp_frac.specs.Stated.{reduced, Outcome}
use Rattle.mp_frac.specs.declared.frac.Frac.{Frac}
use Rattle.mp_frac.proofs.Outcomes.{reduced-below}
use Rattle.mp_frac.proofs.Sums.{past_left, past_right, past_total, past_denominator, sum_outcome-within, total_value, total}
use Rattle.mp_frac.proofs.frac.Frac.add.Goals as goal

pub returns-in_default : goal.returns-in_default
returns-in_default c = sym (past_left c.args.self c.args.other c.gcd-g.result c.gcd-g.ensures c.in_default.ensures)

pub returns-in_default-scaled : goal.returns-in_default-scaled
returns-in_default-scaled c = sym (past_right c.args.self c.args.other c.gcd-g.result c.gcd-g.ensures c.in_default-scaled.ensures)

pub returns-in_default-product : goal.returns-in_default-product
returns-in_default-product c = sym (past_denominator c.args.self c.args.other c.gcd-g.result c.gcd-g.ensures c.in_default-product.ensures)

-- the code's sum is the stated one
total_is : (a b : Frac) (g : ℕ) (s x y : ℤ) → x ≡ a.num *ℤ pos (b.den / g) → y ≡ b.num *ℤ pos (a.den / g) → s ≡ x +ℤ y
    → s ≡ total g a.num a.den b.num b.den
total_is a b g s x y e f h = h ∙ ap (λ (z : ℤ). z +ℤ y) e ∙ ap (λ (z : ℤ). (a.num *ℤ pos (b.den / g)) +ℤ z) f

pub returns-then-past : goal.returns-then-past
returns-then-past c =
    let sum_is = total_is c.args.self c.args.other c.gcd-g.result c.plus-sum.result c.in-Some.left c.in-Some-scaled.right
    c.in-Some.ensures.0 c.in-Some-scaled.ensures.0 c.plus-sum.ensures in
    let past = subst (λ (n : ℕ). limit < n) (c.magnitude-total.ensures ∙ ap unsigned_abs sum_is) c.if-past.true in
    sym (past_total c.args.self c.args.other c.gcd-g.result c.gcd-g.ensures past)

pub lowest-requires : goal.lowest-requires
lowest-requires c =
    rw (c.in-Some-product.ensures.0)
    (mul-pos c.args.self.positive (quotient_positive c.args.self.den c.args.other.den c.gcd-g.result c.args.other.positive c.gcd-g.ensures))

-- the last reduction, of parts that are within the limit
finished : (a b : Frac) (g : ℕ) (r : Outcome) (s : ℤ) (neg : Bool) (m d : ℕ) → ((neg ≡ true) ↔ (s <ℤ pos 0)) → m ≡ unsigned_abs s
    → 0 < d → m ≤ limit → d ≤ limit → r ≡ reduced (ratio_of (signed neg m) d) → r ≡ Ok (ratio_of s d)
finished a b g r s neg m d h e p l k f =
    let value : signed neg m ≡ s = ap (signed neg) e ∙ signed-unsigned_abs neg s h in
    f ∙ reduced-below neg m d p l k ∙ ap (λ (z : ℤ). Ok (ratio_of z d)) value

pub returns : goal.returns
returns c =
    let g = c.gcd-g.result in
    let a = c.args.self in
    let b = c.args.other in
    let sum_is = total_is a b g c.plus-sum.result c.in-Some.left c.in-Some-scaled.right
    c.in-Some.ensures.0 c.in-Some-scaled.ensures.0 c.plus-sum.ensures in
    let d = c.in-Some-product.ensures in
    let small : unsigned_abs (total g a.num a.den b.num b.den) ≤ limit =
    subst (λ (n : ℕ). n ≤ limit) (c.magnitude-total.ensures ∙ ap unsigned_abs sum_is) c.if-past.false in
    let positive : 0 < c.in-Some-product.bottom =
    rw (d.0) (mul-pos a.positive (quotient_positive a.den b.den g b.positive c.gcd-g.ensures)) in
    let m_small : c.magnitude-total.result ≤ limit = c.if-past.false in
    let d_small : c.in-Some-product.bottom ≤ limit = omega (arith, d.0, d.1) in
    finished a b g _ c.plus-sum.result c.is_negative.result c.magnitude-total.result c.in-Some-product.bottom
    c.is_negative.ensures c.magnitude-total.ensures positive m_small d_small c.lowest.ensures
    ∙ ap Ok (ap (λ (z : ℤ). ratio_of z c.in-Some-product.bottom) sum_is ∙ ap (ratio_of (total g a.num a.den b.num b.den)) d.0
    ∙ total_value a.num b.num a.den b.den g a.positive b.positive c.gcd-g.ensures)
    ∙ sym (sum_outcome-within a b g c.gcd-g.ensures c.in-Some.ensures.1 c.in-Some-scaled.ensures.1 small d.1)
