use Rattle.std.proofs.Common.{◌≡◌, ◌++◌, map, drop, length}
use Rattle.std.specs.List.{AllByRecursion}
use Rattle.mp_graph.specs.Shared.{Keeps}
use Rattle.mp_model_data.specs.Shown.{sides_of, equation_in, IsWithin}
use Rattle.mp_solutions.specs.Transformed.{short_equation}
use Rattle.mp_shift.specs.Stand.{stand_by}
use Rattle.mp_shift.specs.Equations.{HasRoom, HasStandIns}
use Rattle.mp_shift.proofs.equations.add_short_equations.Given as goal

abbrev pub invariant-turns : goal.invariant-turns
invariant-turns l = record {
  kept : Keeps l.initial.graph l.graph;
  within : AllByRecursion (IsWithin l.graph) (map sides_of l.found.items);
  ahead : AllByRecursion (IsWithin l.initial.graph) (map sides_of (drop l.equation-index l.equations));
  named : AllByRecursion (HasStandIns l.initial.graph.names.endogenous l.initial.graph.terms l.firsts) (map sides_of (drop l.equation-index l.equations));
  room : AllByRecursion (HasRoom (length l.images)) (map sides_of (drop l.equation-index l.equations));
  equations : map (equation_in l.graph.terms) (map sides_of l.found.items) ++ map (short_equation (stand_by l.firsts)) (map (equation_in l.initial.graph.terms) (map sides_of (drop l.equation-index l.equations))) ≡ map (short_equation (stand_by l.firsts)) (map (equation_in l.initial.graph.terms) (map sides_of l.equations));
}
