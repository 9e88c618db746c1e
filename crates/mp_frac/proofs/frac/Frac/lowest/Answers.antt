use Rattle.std.proofs.Common.{ap, ◌∙◌}
use Rattle.mp_integer.proofs.Divisors.{quotient_positive, quotients_coprime}
use Rattle.mp_frac.specs.Stated.{reduced}
use Rattle.mp_frac.proofs.Outcomes.{ratio_by_divisor}
use Rattle.mp_frac.proofs.frac.Frac.lowest.Goals as goal

pub coprime-requires-clause-positive : goal.coprime-requires-clause-positive
coprime-requires-clause-positive c = quotient_positive c.args.top c.args.bottom c.gcd-g.result c.requires c.gcd-g.ensures

pub coprime-requires-clause-coprime : goal.coprime-requires-clause-coprime
coprime-requires-clause-coprime c = quotients_coprime c.args.top c.args.bottom c.gcd-g.result c.requires c.gcd-g.ensures

pub returns : goal.returns
returns c = c.coprime.ensures ∙ ap reduced (ratio_by_divisor c.args.negative c.args.top c.args.bottom c.gcd-g.result c.requires c.gcd-g.ensures)
