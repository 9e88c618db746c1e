use Rattle.std.proofs.Common.{◌≡◌, ◌++◌, map, drop}
use Rattle.mp_graph.specs.Shared.{Keeps, term_at}
use Rattle.mp_diff.specs.Places.{place_shown}
use Rattle.mp_derivatives.specs.Derivatives.{derivation}
use Rattle.mp_derive.specs.Listed.{derivative_by}
use Rattle.mp_derive.proofs.derive.add_by.Given as goal

abbrev pub invariant-turns : goal.invariant-turns
invariant-turns l = record {
  kept : Keeps l.initial.graph l.graph;
  added : l.list ++ map (derivation l.initial.graph.names) (map (derivative_by l.residual.equation (term_at l.initial.graph.terms l.residual.root)) (map place_shown (drop l.place-index l.places))) ≡ l.initial.list ++ map (derivation l.initial.graph.names) (map (derivative_by l.residual.equation (term_at l.initial.graph.terms l.residual.root)) (map place_shown l.places));
}
