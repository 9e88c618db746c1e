use Rattle.std.proofs.Common.{◌≡◌, take}
use Rattle.mp_shift.specs.Called.{with_names}
use Rattle.mp_shift.proofs.model.add_names.Given as goal

abbrev pub invariant-turns : goal.invariant-turns
invariant-turns l = l.graph ≡ record { names = with_names (take l.place l.auxiliaries) l.initial.graph.names; terms = l.initial.graph.terms }
