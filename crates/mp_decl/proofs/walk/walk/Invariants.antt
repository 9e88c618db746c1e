use Rattle.std.proofs.Common.{◌≡◌, map, drop}
use Rattle.std.specs.List.{flat_map}
use Rattle.mp_declared.specs.Points.{points_in}
use Rattle.mp_file.specs.Shown.{statement_of}
use Rattle.mp_decl.specs.Walk.{walk}
use Rattle.mp_decl.proofs.walk.walk.Given as goal

abbrev pub invariant-turns : goal.invariant-turns
invariant-turns l = walk l.known (flat_map points_in (map statement_of (drop l.statement-index l.statements))) ≡ walk l.initial.known (flat_map points_in (map statement_of l.statements))
