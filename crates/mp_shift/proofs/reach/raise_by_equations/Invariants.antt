use Rattle.std.proofs.Common.{◌≡◌, ℕ, max, drop, length, map}
use Rattle.mp_solutions.specs.Auxiliaries.{Direction, equations_shift}
use Rattle.std.specs.List.{AllByRecursion}
use Rattle.mp_model_data.specs.Shown.{sides_of, equation_in, IsWithin}
use Rattle.mp_shift.specs.Reach.{reach_at}
use Rattle.mp_shift.proofs.reach.raise_by_equations.Given as goal

abbrev pub invariant-turns : goal.invariant-turns
invariant-turns l = record {
  count : length l.found.items ≡ length l.initial.found.items;
  within : AllByRecursion (IsWithin l.graph) (map sides_of (drop l.equation-index l.equations));
  each : (d : Direction) (v : ℕ) → max (reach_at l.found.items d v) (equations_shift d v (map (equation_in l.graph.terms) (map sides_of (drop l.equation-index l.equations)))) ≡ max (reach_at l.initial.found.items d v) (equations_shift d v (map (equation_in l.graph.terms) (map sides_of l.equations)));
}
