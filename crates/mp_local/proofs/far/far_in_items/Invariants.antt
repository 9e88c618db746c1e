use Rattle.std.proofs.Common.{map, take, None}
use Rattle.mp_file.specs.Shown.{item_of}
use Rattle.mp_values.specs.Shifts.{Shifts}
use Rattle.mp_local.specs.Known.{Knows}
use Rattle.mp_local.specs.Reaches.{Goes}
use Rattle.mp_local.proofs.far.far_in_items.Given as goal

abbrev pub invariant-turns : goal.invariant-turns
invariant-turns l = (s : Shifts) → Knows l.fn.known s → Goes l.fn.known.limit s (map item_of (take l.item-index l.items)) l.known None
