use Rattle.mp_shift.proofs.Firsts.{Begun}
use Rattle.mp_shift.proofs.first.firsts_from.Given as goal

abbrev pub invariant-turns : goal.invariant-turns
invariant-turns l = Begun l.start l.reaches l.found.items l.place l.index
