use Rattle.std.proofs.Common.{rules, ◌∙◌}
use Rattle.mp_graph.specs.Shared.{term_at}
use Rattle.mp_trees.proofs.Bound.{next_of_fault, next_of_given}
use Rattle.mp_trees.proofs.Chains.{power_taken}
use Rattle.mp_trees.proofs.expression.raised.Goals as goal

pub returns-in-Err-clause-node : goal.returns-in-Err-clause-node
returns-in-Err-clause-node c given gives = next_of_fault _ c.args.base given _ c.in-Err.fault c.in-Err.is gives

pub returns-in_ok-power_node-in-Ok-clause-node : goal.returns-in_ok-power_node-in-Ok-clause-node
returns-in_ok-power_node-in-Ok-clause-node c given gives =
    next_of_given _ c.args.base given _ c.in-Ok.base c.in-Ok.is gives
    ∙ power_taken (term_at c.args.graph.now.terms c.in-Ok.base) _ c.next.result c.args.exponents.now c.next.new.self c.next.ensures.first c.next.ensures.rest (search rules)
