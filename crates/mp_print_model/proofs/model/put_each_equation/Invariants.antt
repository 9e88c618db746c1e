use Rattle.std.proofs.Common.{◌≡◌, ◌++◌, map, drop}
use Rattle.std.specs.List.{flat_map, AllByRecursion}
use Rattle.mp_model_data.specs.Shown.{IsWithin, sides_of, equation_in}
use Rattle.mp_canonical.specs.Files.{equation_part}
use Rattle.mp_canonical.specs.Spelled.{item_text}
use Rattle.mp_print_model.proofs.model.put_each_equation.Given as goal

abbrev pub invariant-turns : goal.invariant-turns
invariant-turns l =
    (l.out ++ flat_map item_text (map (equation_part l.graph.names) (map (equation_in l.graph.terms) (map sides_of (drop l.equation-index l.equations)))) ≡ l.initial.out ++ flat_map item_text (map (equation_part l.graph.names) (map (equation_in l.graph.terms) (map sides_of l.equations))))
    × AllByRecursion (IsWithin l.graph) (map sides_of (drop l.equation-index l.equations))
