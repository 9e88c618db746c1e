use Rattle.std.proofs.Common.{◌≡◌, ◌<◌, ◌+◌, ◌++◌, map, drop}
use Rattle.std.specs.List.{AllByRecursion}
use Rattle.mp_graph.specs.Shared.{Keeps}
use Rattle.mp_model_data.specs.Shown.{sides_of, equation_in, IsWithin}
use Rattle.mp_shift.specs.Called.{Called}
use Rattle.mp_shift.specs.Equations.{own_equations}
use Rattle.mp_shift.proofs.equations.add_own_equations.Given as goal

abbrev pub invariant-turns : goal.invariant-turns
invariant-turns l = record {
  kept : Keeps l.initial.graph l.graph;
  within : AllByRecursion (IsWithin l.graph) (map sides_of l.found.items);
  places : AllByRecursion (λ (x : Called). x.auxiliary.place < l.variables) (drop l.place l.auxiliaries);
  equations : map (equation_in l.graph.terms) (map sides_of l.found.items) ++ own_equations (l.variables + l.place) (map (λ (x : Called). x.auxiliary) (drop l.place l.auxiliaries)) ≡ map (equation_in l.initial.graph.terms) (map sides_of l.initial.found.items) ++ own_equations l.variables (map (λ (x : Called). x.auxiliary) l.auxiliaries);
}
