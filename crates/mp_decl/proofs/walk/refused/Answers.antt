use Rattle.std.proofs.Common.{option_map, Option, sym, subst}
use Rattle.mp_decl.specs.declared.search.Point.{Point}
use Rattle.mp_decl.specs.Shown.{point_of}
use Rattle.mp_decl.specs.Walk.{walked_by, point_fault}
use Rattle.mp_decl.specs.Walks.{Stops}
use Rattle.mp_decl.proofs.ReadWalks.{stops_told}
use Rattle.mp_decl.proofs.walk.refused.Goals as goal

pub returns-in-Some-point_fault : goal.returns-in-Some-point_fault
returns-in-Some-point_fault c =
    subst (λ (r : Option Point). Stops c.in-Some-point_fault.fault (walked_by c.args.known.now (option_map point_of r))) (sym c.in-Some.is)
    (stops_told c.in-Some-point_fault.fault (point_fault c.args.known.now (point_of c.in-Some.point)) c.args.known.now c.in-Some-point_fault.ensures)
