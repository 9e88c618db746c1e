use Rattle.std.proofs.Common.{◌≡◌, ℕ, ap, sym, ◌∙◌, subst, neg_ℤ}
use Rattle.std.specs.Int.{IsGcd}
use Rattle.std.specs.Int.RustNames.{unsigned_abs}
use Rattle.mp_integer.proofs.Signs.{unsigned_abs-neg_ℤ}
use Rattle.mp_rational.proofs.Ratios.{neg-ratio_of}
use Rattle.mp_frac.proofs.Values.{value_by}
use Rattle.mp_frac.proofs.frac.Frac.negated.Goals as goal

pub from_parts-requires-clause-coprime : goal.from_parts-requires-clause-coprime
from_parts-requires-clause-coprime c =
    let same_size : unsigned_abs c.negated.result ≡ unsigned_abs c.args.self.num =
    ap unsigned_abs c.negated.ensures ∙ unsigned_abs-neg_ℤ c.numerator.result ∙ ap unsigned_abs c.numerator.ensures in
    subst (λ (n : ℕ). IsGcd n c.args.self.den 1) (sym same_size) c.args.self.coprime

pub returns : goal.returns
returns c =
    value_by c.from_parts.result (c.from_parts.ensures.num ∙ c.negated.ensures ∙ ap neg_ℤ c.numerator.ensures) c.from_parts.ensures.den
    ∙ sym (neg-ratio_of c.args.self.num c.args.self.den c.args.self.positive)
