use Rattle.mp_solutions.proofs.Leaves.{val-with_leaves, with_equal_leaves, val-shifted}
use Rattle.mp_solutions.proofs.leaves_laws.Goals as goal

pub returns-clause-replaced : goal.returns-clause-replaced
returns-clause-replaced c = val-with_leaves

pub returns-clause-alike : goal.returns-clause-alike
returns-clause-alike c = with_equal_leaves

pub returns-clause-shifted : goal.returns-clause-shifted
returns-clause-shifted c = val-shifted
