use Rattle.std.proofs.Common.{rules, pos}
use Rattle.std.specs.Int.Signed.{◌<ℤ◌}
use Rattle.mp_fix.proofs.Quotients.{least_negative, least_nonnegative}
use Rattle.mp_fix.proofs.exact.least_quotient.Goals as goal

pub returns-then-is_negative : goal.returns-then-is_negative
returns-then-is_negative c =
    let l : c.args.n <ℤ pos 0 = search rules in
    least_negative _ c.args.n _ _ c.requires.divisor c.requires.ordered l c.quotient_down.ensures

pub returns-else-is_negative : goal.returns-else-is_negative
returns-else-is_negative c =
    let l : c.args.n <ℤ pos 0 → ⊥ = search rules in
    least_nonnegative _ c.args.n _ _ c.requires.divisor c.requires.ordered l c.quotient_down-else-is_negative.ensures
