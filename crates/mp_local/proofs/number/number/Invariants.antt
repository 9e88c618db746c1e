use Rattle.std.proofs.Common.{◌≡◌, ◌≤◌, ◌-◌, ◌^◌, min, drop}
use Rattle.std.specs.Prelude.{fold}
use Rattle.mp_tokens.specs.Literals.{with_digit, number_of}
use Rattle.mp_local.proofs.number.number.Given as goal

abbrev pub invariant-loop-digit : goal.invariant-loop-digit
invariant-loop-digit l = record {
  fits : l.value ≤ 2 ^ 128 - 1;
  whole : min (fold with_digit l.value (drop l.digit-index l.digits)) (2 ^ 128 - 1) ≡ min (number_of l.digits) (2 ^ 128 - 1);
}
