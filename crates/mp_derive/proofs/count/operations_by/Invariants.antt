use Rattle.std.proofs.Common.{◌≡◌, ◌^◌, map, take, min}
use Rattle.mp_graph.specs.Shared.{term_at}
use Rattle.mp_diff.specs.Places.{place_shown}
use Rattle.mp_derive.specs.Counted.{operations_by}
use Rattle.mp_derive.proofs.count.operations_by.Given as goal

abbrev pub invariant-turns : goal.invariant-turns
invariant-turns l = l.count ≡ min (operations_by (term_at l.graph.terms l.root) (map place_shown (take l.place-index l.places))) (10 ^ 37)
