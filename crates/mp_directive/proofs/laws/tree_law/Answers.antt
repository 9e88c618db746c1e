use Rattle.mp_directive.proofs.Standing.{found-tree}
use Rattle.mp_directive.proofs.OnlyTree.{only-tree}
use Rattle.mp_directive.proofs.laws.tree_law.Goals as goal

pub returns-clause-found : goal.returns-clause-found
returns-clause-found c = found-tree

pub returns-clause-only : goal.returns-clause-only
returns-clause-only c = only-tree
