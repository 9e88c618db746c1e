use Rattle.std.proofs.Common.{map, take, None}
use Rattle.mp_statements.specs.Parts.{items_of}
use Rattle.mp_file.specs.Shown.{statement_of}
use Rattle.mp_values.specs.Shifts.{no_locals}
use Rattle.mp_local.specs.Known.{counted}
use Rattle.mp_local.specs.Reaches.{Goes}
use Rattle.mp_local.proofs.far.far_name.Given as goal

abbrev pub invariant-turns : goal.invariant-turns
invariant-turns l =
    Goes l.limit (no_locals (counted l.fn.scope l.names)) (items_of (map statement_of (take l.statement-index l.statement-items))) l.known None
