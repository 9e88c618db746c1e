use Rattle.mp_solutions.proofs.Solutions.{has_same_solutions, has_same_sides}
use Rattle.mp_solutions.proofs.Edges.{same_within, reads_own_part}
use Rattle.mp_solutions.proofs.solutions_law.Goals as goal

pub returns-clause-same_solutions : goal.returns-clause-same_solutions
returns-clause-same_solutions c = has_same_solutions

pub returns-clause-same_solutions_within : goal.returns-clause-same_solutions_within
returns-clause-same_solutions_within c = same_within

pub returns-clause-own_part : goal.returns-clause-own_part
returns-clause-own_part c = reads_own_part

pub returns-clause-same_sides : goal.returns-clause-same_sides
returns-clause-same_sides c = has_same_sides
