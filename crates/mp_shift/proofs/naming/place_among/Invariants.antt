use Rattle.std.proofs.Common.{◌≡◌, map, drop}
use Rattle.mp_file.specs.Shown.{named_of}
use Rattle.mp_shift.specs.Faults.{place_among}
use Rattle.mp_shift.proofs.naming.place_among.Given as goal

abbrev pub invariant-turns : goal.invariant-turns
invariant-turns l = place_among l.name (map named_of (drop l.declared-index l.names)) ≡ place_among l.name (map named_of l.names)
