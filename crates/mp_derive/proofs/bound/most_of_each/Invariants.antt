use Rattle.std.proofs.Common.{◌≡◌, map, take}
use Rattle.std.specs.List.{sum_by}
use Rattle.mp_graph.specs.Shared.{term_at}
use Rattle.mp_derivatives.specs.Bound.{bound_of}
use Rattle.mp_derive.specs.Extent.{capped}
use Rattle.mp_derive.proofs.bound.most_of_each.Given as goal

abbrev pub invariant-turns : goal.invariant-turns
invariant-turns l = l.most ≡ capped (sum_by bound_of (map (term_at l.graph.terms) (take l.root-index l.roots)))
