use Rattle.std.proofs.Common.{◌+◌, ◌*◌, max}
use Rattle.mp_print_model.proofs.node.+writer.Given as goal

abbrev pub decreases-put_node : goal.decreases-put_node
decreases-put_node l = 3 * l.id

abbrev pub decreases-put_fenced : goal.decreases-put_fenced
decreases-put_fenced l = 3 * l.id + 1

abbrev pub decreases-put_binary : goal.decreases-put_binary
decreases-put_binary l = 3 * max l.left l.right + 2

abbrev pub decreases-put_pick : goal.decreases-put_pick
decreases-put_pick l = 3 * max (max l.a l.b) (max l.c l.d) + 2

abbrev pub decreases-put_pair : goal.decreases-put_pair
decreases-put_pair l = 3 * max l.a l.b + 1
