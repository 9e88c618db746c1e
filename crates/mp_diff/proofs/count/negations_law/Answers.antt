use Rattle.std.proofs.Common.{arith}
use Rattle.mp_graph.specs.Shared.{term_at}
use Rattle.mp_diff.proofs.Negations.{derivative_height, height_at, negations_height}
use Rattle.mp_diff.proofs.count.negations_law.Goals as goal

pub returns-clause-node : goal.returns-clause-node
returns-clause-node c =
    let ts = c.args.graph.now.terms in
    omega (arith, negations_height (term_at ts c.args.kid), height_at ts c.whole.ensures c.args.kid (omega (arith, c.requires.below, c.requires.within)), c.nodes.ensures)

pub returns-clause-derivative : goal.returns-clause-derivative
returns-clause-derivative c = λ v k.
    let ts = c.args.graph.now.terms in
    omega (arith, derivative_height (term_at ts c.args.kid) v k, height_at ts c.whole.ensures c.args.kid (omega (arith, c.requires.below, c.requires.within)), c.nodes.ensures)
