use Rattle.std.proofs.Common.{◌+◌, ◌*◌}
use Rattle.mp_graph.proofs.graph.Graph.+trees.Given as goal

abbrev pub decreases-tree_of : goal.decreases-tree_of
decreases-tree_of l = 2 * l.id

abbrev pub decreases-boxed_tree : goal.decreases-boxed_tree
decreases-boxed_tree l = 2 * l.id + 1
