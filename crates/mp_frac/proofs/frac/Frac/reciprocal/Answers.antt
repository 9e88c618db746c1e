use Rattle.std.proofs.Common.{◌≡◌, ℕ, ℤ, ◌<◌, ap, sym, ◌∙◌, arith, subst, refl}
use Rattle.std.specs.Int.{IsGcd}
use Rattle.std.specs.Int.RustNames.{unsigned_abs}
use Rattle.std.proofs.lemmas.Nat.Gcd.{IsGcd-swap}
use Rattle.mp_integer.proofs.Signs.{unsigned_abs-signed, zero_from_magnitude}
use Rattle.mp_rational.specs.Fraction.{inv, ratio_of}
use Rattle.mp_rational.proofs.Ratios.{inv-ratio_of, zero-ratio_of}
use Rattle.mp_frac.proofs.Values.{value_by}
use Rattle.mp_frac.proofs.Products.{signed_by}
use Rattle.mp_frac.proofs.Quotients.{not_zero-ratio_of}
use Rattle.mp_frac.proofs.frac.Frac.reciprocal.Goals as goal

pub returns-then-magnitude-eq0 : goal.returns-then-magnitude-eq0
returns-then-magnitude-eq0 c =
    let zero = zero_from_magnitude c.args.self.num (sym c.magnitude-magnitude.ensures ∙ c.if-magnitude-eq0.true) in
    (refl, (zero-ratio_of c.args.self.num c.args.self.den c.args.self.positive).1 zero)

pub from_parts-requires-clause-coprime : goal.from_parts-requires-clause-coprime
from_parts-requires-clause-coprime c =
    let top : unsigned_abs c.signed.result ≡ c.args.self.den =
    ap unsigned_abs c.signed.ensures ∙ unsigned_abs-signed c.is_negative.result c.args.self.den in
    subst (λ (n : ℕ). IsGcd n c.magnitude-magnitude.result 1) (sym top)
    (subst (λ (n : ℕ). IsGcd c.args.self.den n 1) (sym c.magnitude-magnitude.ensures)
    (IsGcd-swap (unsigned_abs c.args.self.num) c.args.self.den 1 c.args.self.coprime))

pub returns : goal.returns
returns c =
    let m = c.magnitude-magnitude.result in
    let d = c.args.self.den in
    let s = c.is_negative.result in
    let num_is = signed_by c.args.self.num s m c.is_negative.ensures c.magnitude-magnitude.ensures in
    let ne = c.if-magnitude-eq0.false in
    let positive : 0 < m = omega (arith, ne) in (
      not_zero-ratio_of c.args.self.num d c.args.self.positive (λ e. ne (c.magnitude-magnitude.ensures ∙ ap unsigned_abs e)),
      value_by c.from_parts.result (c.from_parts.ensures.num ∙ c.signed.ensures) c.from_parts.ensures.den ∙ sym (inv-ratio_of s m d positive c.args.self.positive)
          ∙ ap (λ (z : ℤ). inv (ratio_of z d)) (sym num_is),
    )
