use Rattle.std.proofs.Common.{◌≡◌, map, drop}
use Rattle.mp_model_data.specs.Shown.{parameter_of}
use Rattle.mp_values.specs.ModelOf.{each, parameters_given}
use Rattle.mp_trees.specs.Parts.{after_these, parameter_given}
use Rattle.mp_trees.proofs.file.find_parameters.Given as goal

abbrev pub invariant-turns : goal.invariant-turns
invariant-turns l =
    after_these (map parameter_of l.found.items) (each parameter_given (drop l.place l.table)) ≡ parameters_given l.table
