use Rattle.std.proofs.Common.{◌≡◌, map, drop}
use Rattle.mp_declared.specs.Points.{Noted}
use Rattle.mp_file.specs.Shown.{named_of}
use Rattle.mp_decl.specs.Walk.{walk}
use Rattle.mp_decl.proofs.walk.walk_noted.Given as goal

abbrev pub invariant-turns : goal.invariant-turns
invariant-turns l = walk l.known (map Noted (map named_of (drop l.name-index l.names))) ≡ walk l.known (map Noted (map named_of l.names))
