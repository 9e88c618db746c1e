use Rattle.std.proofs.Common.{◌≡◌, map, take, None}
use Rattle.mp_names.proofs.table.Table.of_parameters.Given as goal

abbrev pub invariant-turns : goal.invariant-turns
invariant-turns l = l.values.entries ≡ map (λ k. (k, None)) (take l.name-index l.name-items)
