use Rattle.mp_pairing.specs.Lists.{IsMarked}
use Rattle.mp_incidence.proofs.numbers.marked.Given as goal

abbrev pub invariant-marks : goal.invariant-marks
invariant-marks l = IsMarked l.marks l.i l.xs
