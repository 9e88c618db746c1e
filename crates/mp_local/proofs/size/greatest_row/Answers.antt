use Rattle.std.proofs.Common.{◌<◌, length, arith}
use Rattle.mp_model_data.specs.Shown.{sides_of}
use Rattle.mp_local.proofs.SizeLaws.{one_has, greatest_turn}
use Rattle.mp_local.proofs.size.greatest_row.Goals as goal

pub row_at-requires : goal.row_at-requires
row_at-requires c =
    (one_has (λ x. (x.left < length c.args.rows.now) × (x.right < length c.args.rows.now)) sides_of c.args.equations.now c.turns.equation-index c.equation-item.result c.equation-item.result c.requires c.turns-test.true c.equation-item.is).0

pub row_at-requires-in-turns : goal.row_at-requires-in-turns
row_at-requires-in-turns c =
    (one_has (λ x. (x.left < length c.args.rows.now) × (x.right < length c.args.rows.now)) sides_of c.args.equations.now c.turns.equation-index c.equation-item.result c.equation-item.result c.requires c.turns-test.true c.equation-item.is).1

pub turns-preserved : goal.turns-preserved
turns-preserved c =
    greatest_turn c.args.rows.now c.args.equations.now c.turns.equation-index c.equation-item.result c.turns-test.true c.equation-item.is c.row_at.result c.row_at-in-turns.result c.row_at.ensures c.row_at-in-turns.ensures c.turns.most c.max-most.result c.turns.invariant
    (omega (arith, c.max-most.ensures, c.max-higher.ensures))
