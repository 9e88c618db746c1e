use Rattle.std.proofs.Common.{◌^◌, Some, None, cond, sym, ap, arith}
use Rattle.mp_tokens.specs.Literals.{number_of}
use Rattle.mp_trees.proofs.Digits.{beyond_at}
use Rattle.mp_trees.proofs.atom.number.Goals as goal

pub returns-then-value-gt-LIMIT : goal.returns-then-value-gt-LIMIT
returns-then-value-gt-LIMIT c =
    sym (ap (λ b. cond b (Some (number_of c.args.digits.now)) None) (beyond_at c.loop-digit.value (10 ^ 37) c.loop-digit.digit-index _ c.args.digits.now c.loop-digit-test.true c.loop-digit.invariant.whole (omega (arith, c.saturating_sub.ensures))))
