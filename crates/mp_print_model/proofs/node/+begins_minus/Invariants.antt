use Rattle.mp_print_model.proofs.node.+begins_minus.Given as goal

abbrev pub decreases-begins_minus : goal.decreases-begins_minus
decreases-begins_minus l = l.id
