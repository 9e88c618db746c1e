use Rattle.std.proofs.Common.{◌≡◌, map, drop}
use Rattle.mp_file.specs.Shown.{statement_of}
use Rattle.mp_values.specs.Values.{assigned}
use Rattle.mp_fold.specs.Assigned.{reached}
use Rattle.mp_fold.proofs.assign.assign_values.Given as goal

abbrev pub invariant-turns : goal.invariant-turns
invariant-turns l =
    (assigned l.table (map statement_of (drop l.statement-index l.statements)) ≡ assigned l.initial.table (map statement_of l.statements))
    × (reached l.table (map statement_of (drop l.statement-index l.statements)) ≡ reached l.initial.table (map statement_of l.statements))
