use Rattle.std.proofs.Common.{◌≡◌, take, ◌++◌}
use Rattle.mp_mvalue.specs.Shared.{all_unshared}
use Rattle.mp_mvalue.proofs.array.add_all.Given as goal

abbrev pub invariant-loop-value : goal.invariant-loop-value
invariant-loop-value l = all_unshared l.elements ≡ all_unshared l.initial.elements ++ all_unshared (take l.value-index l.more)
