use Rattle.std.proofs.Common.{◌≡◌, map, take}
use Rattle.mp_model_data.specs.Shown.{sides_of}
use Rattle.mp_local.specs.Sizes.{greatest, side_rows}
use Rattle.mp_local.proofs.size.greatest_row.Given as goal

abbrev pub invariant-turns : goal.invariant-turns
invariant-turns l = l.most ≡ greatest (side_rows l.rows (map sides_of (take l.equation-index l.equations)))
