use Rattle.std.proofs.Common.{◌-◌, ◌^◌, arith}
use Rattle.mp_local.proofs.Digits.{capped_turn}
use Rattle.mp_local.proofs.number.number.Goals as goal

pub loop-digit-preserved : goal.loop-digit-preserved
loop-digit-preserved c = record {
  fits = omega (arith, c.saturating_add-value.ensures);
  whole =
      capped_turn c.loop-digit.value c.saturating_add-value.result (2 ^ 128 - 1) c.loop-digit.digit-index _ c.args.digits.now c.loop-digit-test.true
      (omega (arith, c.saturating_sub-units.ensures, c.saturating_mul.ensures, c.saturating_add-value.ensures))
      c.loop-digit.invariant.whole;
}
