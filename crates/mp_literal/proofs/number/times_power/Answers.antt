use Rattle.std.proofs.Common.{arith, ◌∙◌}
use Rattle.mp_literal.proofs.Limits.{beyond-turn, times_power-more}
use Rattle.mp_literal.proofs.number.times_power.Goals as goal

pub returns-then-number-gt-LIMIT : goal.returns-then-number-gt-LIMIT
returns-then-number-gt-LIMIT c =
    beyond-turn c.loop.number c.args.power c.loop.counter _ c.loop-test.true c.loop.invariant.told c.if-number-gt-LIMIT.true

pub loop-preserved : goal.loop-preserved
loop-preserved c = record {
  small = c.if-number-gt-LIMIT.false;
  within = omega arith;
  told = times_power-more c.loop.number c.args.power c.loop.counter c.loop-test.true ∙ c.loop.invariant.told;
}
