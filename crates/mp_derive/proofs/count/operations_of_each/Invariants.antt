use Rattle.std.proofs.Common.{◌≡◌, ◌^◌, map, take, min}
use Rattle.std.specs.List.{sum_by}
use Rattle.mp_graph.specs.Shared.{term_at}
use Rattle.mp_derive.specs.Counted.{all_operations}
use Rattle.mp_derive.proofs.count.operations_of_each.Given as goal

abbrev pub invariant-turns : goal.invariant-turns
invariant-turns l = l.count ≡ min (sum_by all_operations (map (term_at l.graph.terms) (take l.root-index l.roots))) (10 ^ 37)
