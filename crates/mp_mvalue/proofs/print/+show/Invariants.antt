use Rattle.std.proofs.Common.{◌≡◌, take, ◌++◌, map}
use Rattle.mp_mvalue.specs.Shared.{all_unshared}
use Rattle.mp_mvalue.specs.Values.{shown, listed_after}
use Rattle.mp_mvalue.proofs.print.+show.Given as goal

abbrev pub invariant-show_all-loop-value : goal.invariant-show_all-loop-value
invariant-show_all-loop-value l = l.out ≡ l.initial.out ++ listed_after (map shown (all_unshared (take l.value-index l.more)))
