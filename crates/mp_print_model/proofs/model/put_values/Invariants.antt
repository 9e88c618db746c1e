use Rattle.std.proofs.Common.{◌≡◌, ◌++◌, map, drop}
use Rattle.mp_model_data.specs.Shown.{parameter_of}
use Rattle.mp_canonical.specs.Files.{value_part}
use Rattle.mp_canonical.specs.Spelled.{lines_of}
use Rattle.mp_print_model.proofs.model.put_values.Given as goal

abbrev pub invariant-turns : goal.invariant-turns
invariant-turns l = l.out ++ lines_of (map value_part (map parameter_of (drop l.parameter-index l.parameters))) ≡ l.initial.out ++ lines_of (map value_part (map parameter_of l.parameters))
