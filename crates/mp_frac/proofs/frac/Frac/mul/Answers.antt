use Rattle.std.proofs.Common.{ℕ, ◌*◌, ◌/◌, ◌<◌, ap, sym, ◌∙◌, subst, inl, inr}
use Rattle.std.specs.Prelude.{not}
use mathlib.Core.Bool.{beq}
use Rattle.std.specs.Int.{IsGcd}
use Rattle.mp_integer.specs.Sign.{signed}
use Rattle.mp_rational.specs.Fraction.{ratio_of}
use Rattle.mp_frac.specs.Stated.{reduced}
use Rattle.mp_frac.proofs.Products.{product_outcome-signed, product_coprime, product_positive, product_past, signed_by}
use Rattle.mp_frac.proofs.frac.Frac.mul.Goals as goal

pub returns-in_default : goal.returns-in_default
returns-in_default c =
    sym (product_past c.args.self c.args.other c.magnitude-left.result c.magnitude-right.result c.gcd-g.result c.gcd-h.result
    c.magnitude-left.ensures c.magnitude-right.ensures c.gcd-g.ensures c.gcd-h.ensures (inl c.in_default.ensures))

pub returns-in_default-product : goal.returns-in_default-product
returns-in_default-product c =
    sym (product_past c.args.self c.args.other c.magnitude-left.result c.magnitude-right.result c.gcd-g.result c.gcd-h.result
    c.magnitude-left.ensures c.magnitude-right.ensures c.gcd-g.ensures c.gcd-h.ensures (inr c.in_default-product.ensures))

pub coprime-requires-clause-positive : goal.coprime-requires-clause-positive
coprime-requires-clause-positive c =
    subst (λ (n : ℕ). 0 < n) (sym c.in-Some-product.ensures.0)
    (product_positive c.args.self c.args.other c.magnitude-left.result c.magnitude-right.result c.gcd-g.result c.gcd-h.result
    c.gcd-g.ensures c.gcd-h.ensures)

pub coprime-requires-clause-coprime : goal.coprime-requires-clause-coprime
coprime-requires-clause-coprime c =
    let h = product_coprime c.args.self c.args.other c.magnitude-left.result c.magnitude-right.result c.gcd-g.result c.gcd-h.result
    c.magnitude-left.ensures c.magnitude-right.ensures c.gcd-g.ensures c.gcd-h.ensures in
    subst (λ (n : ℕ). IsGcd c.in-Some.top n 1) (sym c.in-Some-product.ensures.0)
    (subst (λ (n : ℕ). IsGcd n ((c.args.self.den / c.gcd-h.result) * (c.args.other.den / c.gcd-g.result)) 1) (sym c.in-Some.ensures.0) h)

pub returns : goal.returns
returns c =
    let x = c.args.self in
    let y = c.args.other in
    let s = c.is_negative.result in
    let t = c.is_negative-2.result in
    let m = c.magnitude-left.result in
    let k = c.magnitude-right.result in
    c.coprime.ensures
    ∙ ap (λ (n : ℕ). reduced (ratio_of (signed (not (beq s t)) n) c.in-Some-product.bottom)) c.in-Some.ensures.0
    ∙ ap (λ (n : ℕ). reduced (ratio_of (signed (not (beq s t)) ((m / c.gcd-g.result) * (k / c.gcd-h.result))) n)) c.in-Some-product.ensures.0
    ∙ sym (product_outcome-signed x y s t m k c.gcd-g.result c.gcd-h.result
    (signed_by x.num s m c.is_negative.ensures c.magnitude-left.ensures) (signed_by y.num t k c.is_negative-2.ensures c.magnitude-right.ensures)
    c.gcd-g.ensures c.gcd-h.ensures)
