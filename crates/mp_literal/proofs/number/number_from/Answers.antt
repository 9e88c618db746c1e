use Rattle.std.proofs.Common.{arith}
use Rattle.mp_literal.proofs.Limits.{beyond-digit}
use Rattle.mp_literal.proofs.number.number_from.Goals as goal

pub returns-then-number-gt-LIMIT : goal.returns-then-number-gt-LIMIT
returns-then-number-gt-LIMIT c =
    beyond-digit c.loop-digit.number c.loop-digit.digit-index _ c.args.digits.now c.loop-digit-test.true c.loop-digit.invariant.told (omega (arith, c.saturating_sub.ensures))
