use Rattle.std.proofs.Common.{refl}
use Rattle.mp_solutions.proofs.example_law.Goals as goal

pub returns-clause-long : goal.returns-clause-long
returns-clause-long c = refl

pub returns-clause-mixed : goal.returns-clause-mixed
returns-clause-mixed c = refl
