use Rattle.std.proofs.Common.{◌≡◌, map, drop}
use Rattle.mp_file.specs.Shown.{statement_of}
use Rattle.mp_shift.specs.Faults.{first_place}
use Rattle.mp_shift.proofs.naming.declared_at.Given as goal

abbrev pub invariant-turns : goal.invariant-turns
invariant-turns l =
    first_place l.name (map statement_of (drop l.statement-index l.file.statements)) ≡ first_place l.name (map statement_of l.file.statements)
