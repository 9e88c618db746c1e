use Rattle.std.proofs.Common.{◌≡◌, ◌+◌, ◌++◌, map, drop}
use Rattle.mp_graph.specs.Shared.{Keeps, term_at}
use Rattle.mp_derivatives.specs.Derivatives.{derivation}
use Rattle.mp_derive.specs.Listed.{derivatives_by}
use Rattle.mp_derive.proofs.derive.add_each.Given as goal

abbrev pub invariant-turns : goal.invariant-turns
invariant-turns l = record {
  kept : Keeps l.initial.graph l.graph;
  added : l.list ++ map (derivation l.initial.graph.names) (derivatives_by (l.place + 1) (map (term_at l.initial.graph.terms) (drop l.place l.roots))) ≡ l.initial.list ++ map (derivation l.initial.graph.names) (derivatives_by 1 (map (term_at l.initial.graph.terms) l.roots));
}
