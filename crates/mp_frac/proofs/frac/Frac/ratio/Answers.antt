use Rattle.std.proofs.Common.{false, ℕ, ◌/◌, ap, sym, ◌∙◌, subst}
use Rattle.std.specs.Int.{IsGcd}
use Rattle.std.specs.Int.RustNames.{unsigned_abs}
use Rattle.mp_integer.proofs.Signs.{unsigned_abs-signed}
use Rattle.mp_integer.proofs.Divisors.{quotient_positive, quotients_coprime}
use Rattle.mp_frac.proofs.Outcomes.{ratio_by_divisor}
use Rattle.mp_frac.proofs.Values.{value_by}
use Rattle.mp_frac.proofs.frac.Frac.ratio.Goals as goal

pub from_parts-requires-clause-positive : goal.from_parts-requires-clause-positive
from_parts-requires-clause-positive c = quotient_positive c.args.top c.args.bottom c.gcd-g.result c.requires.positive c.gcd-g.ensures

pub from_parts-requires-clause-coprime : goal.from_parts-requires-clause-coprime
from_parts-requires-clause-coprime c =
    subst (λ (n : ℕ). IsGcd n (c.args.bottom / c.gcd-g.result) 1) (sym (ap unsigned_abs c.signed.ensures ∙ unsigned_abs-signed false (c.args.top / c.gcd-g.result)))
    (quotients_coprime c.args.top c.args.bottom c.gcd-g.result c.requires.positive c.gcd-g.ensures)

pub returns : goal.returns
returns c =
    value_by c.from_parts.result (c.from_parts.ensures.num ∙ c.signed.ensures) c.from_parts.ensures.den
    ∙ ratio_by_divisor false c.args.top c.args.bottom c.gcd-g.result c.requires.positive c.gcd-g.ensures
