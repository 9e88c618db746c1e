use Rattle.std.proofs.Common.{◌≡◌, ◌-◌, ◌*◌, ◌^◌, ◌≤◌}
use Rattle.mp_literal.proofs.number.times_power.Given as goal

abbrev pub invariant-loop : goal.invariant-loop
invariant-loop l = record {
  small : l.number ≤ 10 ^ 37;
  within : l.counter ≤ l.power;
  told : l.number * 10 ^ (l.power - l.counter) ≡ l.start * 10 ^ l.power;
}
