use Rattle.std.proofs.Common.{◌≡◌, ◌≤◌, ◌^◌, drop, fold}
use Rattle.mp_tokens.specs.Literals.{with_digit}
use Rattle.mp_literal.proofs.number.number_from.Given as goal

abbrev pub invariant-loop-digit : goal.invariant-loop-digit
invariant-loop-digit l = record {
  small : l.number ≤ 10 ^ 37;
  told : fold with_digit l.number (drop l.digit-index l.digits) ≡ fold with_digit l.start l.digits;
}
