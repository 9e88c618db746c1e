use Rattle.mp_mvalue.specs.Shared.{unshared}
use Rattle.mp_mexpr.proofs.Operators.{strict_value-numbers}
use Rattle.mp_mexpr.proofs.meaning.strict_value.Goals as goal

pub returns-in_default : goal.returns-in_default
returns-in_default c =
    rw (strict_value-numbers c.args.operator (unshared c.args.left.now) (unshared c.args.right.now) c.in_default.not-Equal c.in_default.not-Different c.in_default.not-In c.in_default.not-Add) c.of_numbers.ensures
