use Rattle.std.proofs.Common.{[], map, take, None}
use Rattle.std.specs.List.{flat_map}
use Rattle.mp_declared.specs.Many.{declared_in}
use Rattle.mp_file.specs.Shown.{statement_of}
use Rattle.mp_local.specs.Many.{Passes}
use Rattle.mp_local.proofs.many.name_beyond.Given as goal

abbrev pub invariant-turns : goal.invariant-turns
invariant-turns l =
    Passes [] l.initial.room (flat_map declared_in (map statement_of (take l.statement-index l.statement-items))) l.room None
