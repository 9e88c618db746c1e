use Rattle.std.proofs.Common.{Ok, sym, ap, ◌∙◌}
use Rattle.mp_trees.proofs.Bound.{next_of_fault, next_of_given}
use Rattle.mp_trees.proofs.expression.gained.Goals as goal

pub returns-in-Err-clause-node : goal.returns-in-Err-clause-node
returns-in-Err-clause-node c ks given gives = next_of_fault _ c.args.operand given _ c.in-Err.fault c.in-Err.is gives

pub returns-in_ok-difference_node-in-Ok-clause-node : goal.returns-in_ok-difference_node-in-Ok-clause-node
returns-in_ok-difference_node-in-Ok-clause-node c ks given gives =
    next_of_given _ c.args.operand given _ c.in-Ok.operand c.in-Ok.is gives ∙ ap (λ x. Ok (x, ks)) (sym c.in_ok-difference_node-in-Ok.ensures.says.term)
