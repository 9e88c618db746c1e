use Rattle.std.proofs.Common.{map, arith}
use Rattle.mp_graph.specs.Shared.{term_at}
use Rattle.mp_derive.proofs.Counts.{at_most}
use Rattle.mp_derive.proofs.few.test_few.Goals as goal

pub returns-then-most-le-OPERATIONS_LIMIT : goal.returns-then-most-le-OPERATIONS_LIMIT
returns-then-most-le-OPERATIONS_LIMIT c =
    omega (arith, at_most c.bound_law.ensures (map (term_at c.args.graph.now.terms) c.args.roots.now), c.in_ok-most.ensures)
