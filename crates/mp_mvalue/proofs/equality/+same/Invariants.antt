use Rattle.std.proofs.Common.{◌≡◌, drop, length}
use Rattle.mp_mvalue.specs.Shared.{all_unshared}
use Rattle.mp_mvalue.specs.Values.{same_all}
use Rattle.mp_mvalue.proofs.equality.+same.Given as goal

abbrev pub invariant-same_all-loop-x : goal.invariant-same_all-loop-x
invariant-same_all-loop-x l = same_all (all_unshared (drop (length l.yielded) l.xs)) (all_unshared (drop (length l.yielded) l.ys)) ≡ same_all (all_unshared l.xs) (all_unshared l.ys)
