use Rattle.mp_pairing.specs.Lists.{Has}
use Rattle.mp_incidence.specs.Tables.{IsRowFor}
use Rattle.mp_incidence.proofs.links.occurring.Given as goal

abbrev pub invariant-marks : goal.invariant-marks
invariant-marks l = IsRowFor (Has l.row) l.b l.marks.items
