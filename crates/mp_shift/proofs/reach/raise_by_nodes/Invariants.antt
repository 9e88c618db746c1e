use Rattle.std.proofs.Common.{◌≡◌, ℕ, max, drop, length}
use Rattle.mp_solutions.specs.Auxiliaries.{Direction}
use Rattle.mp_shift.specs.Reach.{reach_at, nodes_shift}
use Rattle.mp_shift.proofs.reach.raise_by_nodes.Given as goal

abbrev pub invariant-turns : goal.invariant-turns
invariant-turns l = record {
  count : length l.found.items ≡ length l.initial.found.items;
  each : (d : Direction) (v : ℕ) → max (reach_at l.found.items d v) (nodes_shift l.graph.terms d v (drop l.id-index l.ids)) ≡ max (reach_at l.initial.found.items d v) (nodes_shift l.graph.terms d v l.ids);
}
