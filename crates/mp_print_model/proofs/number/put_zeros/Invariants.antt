use Rattle.std.proofs.Common.{◌≡◌, ◌++◌, replicate}
use Rattle.mp_print_model.proofs.number.put_zeros.Given as goal

abbrev pub invariant-loop-written : goal.invariant-loop-written
invariant-loop-written l = l.out ≡ l.initial.out ++ replicate l._written 48
