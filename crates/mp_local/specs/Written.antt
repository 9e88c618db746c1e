-- Items whose shifts are numbers in range, in as many `diff` as parentheses may be open.
use Rattle.std.specs.Prelude.{◌≤◌, ◌^◌, List, unsigned_abs}
use Rattle.std.specs.List.{AllByRecursion, flat_map}
use Rattle.mp_statements.specs.Statements.{Item}
use Rattle.mp_values.specs.Names.{shift_of}
use Rattle.mp_values.specs.Shifts.{Reading, item_readings}

pub record IsWritten (r : Reading) : Type 0 where
  pub periods : unsigned_abs (shift_of r.shift) ≤ 10 ^ 37
  pub depth : r.depth ≤ 500

abbrev pub AreWritten : List Item → Type 0
AreWritten items = AllByRecursion IsWritten (flat_map item_readings items)
