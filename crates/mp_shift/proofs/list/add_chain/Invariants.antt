use Rattle.std.proofs.Common.{◌≡◌, ◌++◌, map}
use Rattle.mp_solutions.specs.Auxiliaries.{chain}
use Rattle.mp_shift.specs.Called.{auxiliary_of, direction_of}
use Rattle.mp_shift.proofs.list.add_chain.Given as goal

abbrev pub invariant-turns : goal.invariant-turns
invariant-turns l = map auxiliary_of l.found.items ≡ map auxiliary_of l.initial.found.items ++ chain l.fn.place (direction_of l.fn.direction) l.index
