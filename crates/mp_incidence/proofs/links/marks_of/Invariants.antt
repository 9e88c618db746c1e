use Rattle.mp_pairing.specs.Lists.{Has}
use Rattle.mp_incidence.specs.Tables.{IsRowFor}
use Rattle.mp_incidence.proofs.links.marks_of.Given as goal

abbrev pub invariant-marks : goal.invariant-marks
invariant-marks l = IsRowFor (Has l.items) l.b l.marks.items
