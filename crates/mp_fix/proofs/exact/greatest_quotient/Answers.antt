use Rattle.std.proofs.Common.{◌∙◌}
use Rattle.mp_fix.proofs.Quotients.{greatest_by_least}
use Rattle.mp_fix.proofs.exact.greatest_quotient.Goals as goal

pub returns : goal.returns
returns c =
    c.negated-2.ensures ∙ greatest_by_least _ c.args.n c.negated.result _ _ c.negated.ensures c.least_quotient.ensures
