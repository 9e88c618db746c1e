use Rattle.std.proofs.Common.{◌≡◌, ◌^◌, map, take, min, sum}
use Rattle.mp_model_data.specs.Shown.{sides_of}
use Rattle.mp_local.specs.Sizes.{side_rows}
use Rattle.mp_local.proofs.size.sum_of_rows.Given as goal

abbrev pub invariant-turns : goal.invariant-turns
invariant-turns l = l.total ≡ min (sum (side_rows l.rows (map sides_of (take l.equation-index l.equations)))) (10 ^ 37)
