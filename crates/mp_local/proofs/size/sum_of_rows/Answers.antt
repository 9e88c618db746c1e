use Rattle.std.proofs.Common.{◌<◌, ◌^◌, length, arith}
use Rattle.mp_model_data.specs.Shown.{sides_of}
use Rattle.mp_local.proofs.SizeLaws.{one_has, row_below, sum_turn}
use Rattle.mp_local.proofs.size.sum_of_rows.Goals as goal

pub row_at-requires : goal.row_at-requires
row_at-requires c =
    (one_has (λ x. (x.left < length c.args.rows.now) × (x.right < length c.args.rows.now)) sides_of c.args.equations.now c.turns.equation-index c.equation-item.result c.equation-item.result c.requires.within c.turns-test.true c.equation-item.is).0

pub row_at-requires-in-turns : goal.row_at-requires-in-turns
row_at-requires-in-turns c =
    (one_has (λ x. (x.left < length c.args.rows.now) × (x.right < length c.args.rows.now)) sides_of c.args.equations.now c.turns.equation-index c.equation-item.result c.equation-item.result c.requires.within c.turns-test.true c.equation-item.is).1

pub overflow_add-both : goal.overflow_add-both
overflow_add-both c =
    let within = one_has (λ x. (x.left < length c.args.rows.now) × (x.right < length c.args.rows.now)) sides_of c.args.equations.now c.turns.equation-index c.equation-item.result c.equation-item.result c.requires.within c.turns-test.true c.equation-item.is in
    let a = row_below c.args.rows.now c.equation-item.result.left c.row_at.result (10 ^ 37) c.requires.stopped within.0 c.row_at.ensures in
    let b = row_below c.args.rows.now c.equation-item.result.right c.row_at-in-turns.result (10 ^ 37) c.requires.stopped within.1 c.row_at-in-turns.ensures in
    omega (arith, a, b)

pub overflow_add-total : goal.overflow_add-total
overflow_add-total c =
    let within = one_has (λ x. (x.left < length c.args.rows.now) × (x.right < length c.args.rows.now)) sides_of c.args.equations.now c.turns.equation-index c.equation-item.result c.equation-item.result c.requires.within c.turns-test.true c.equation-item.is in
    let a = row_below c.args.rows.now c.equation-item.result.left c.row_at.result (10 ^ 37) c.requires.stopped within.0 c.row_at.ensures in
    let b = row_below c.args.rows.now c.equation-item.result.right c.row_at-in-turns.result (10 ^ 37) c.requires.stopped within.1 c.row_at-in-turns.ensures in
    omega (arith, a, b, c.turns.invariant)

pub turns-preserved : goal.turns-preserved
turns-preserved c =
    sum_turn c.args.rows.now c.args.equations.now c.turns.equation-index c.equation-item.result c.turns-test.true c.equation-item.is c.row_at.result c.row_at-in-turns.result c.row_at.ensures c.row_at-in-turns.ensures (10 ^ 37) c.turns.total c.min-total.result c.turns.invariant c.min-total.ensures
