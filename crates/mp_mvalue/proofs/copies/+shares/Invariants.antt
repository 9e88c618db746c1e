use Rattle.std.proofs.Common.{◌≡◌, take}
use Rattle.mp_mvalue.proofs.copies.+shares.Given as goal

abbrev pub invariant-shared_all-loop-value : goal.invariant-shared_all-loop-value
invariant-shared_all-loop-value l = l.array ≡ take l.value-index l.values
