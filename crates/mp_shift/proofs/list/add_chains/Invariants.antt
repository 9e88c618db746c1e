use Rattle.std.proofs.Common.{◌≡◌, map}
use Rattle.mp_solutions.specs.Auxiliaries.{auxiliaries}
use Rattle.mp_shift.specs.Called.{auxiliary_of}
use Rattle.mp_shift.specs.Reach.{lengths_of}
use Rattle.mp_shift.proofs.list.add_chains.Given as goal

abbrev pub invariant-turns : goal.invariant-turns
invariant-turns l = map auxiliary_of l.found.items ≡ auxiliaries (lengths_of l.reaches) l.place
