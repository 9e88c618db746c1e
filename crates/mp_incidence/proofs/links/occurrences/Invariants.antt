use Rattle.std.proofs.Common.{length}
use Rattle.mp_pairing.specs.Pairing.{Occurs}
use Rattle.mp_incidence.specs.Tables.{IsTableFor}
use Rattle.mp_incidence.proofs.links.occurrences.Given as goal

abbrev pub invariant-rows : goal.invariant-rows
invariant-rows l = IsTableFor (Occurs l.rows) (length l.rows) l.a l.table
