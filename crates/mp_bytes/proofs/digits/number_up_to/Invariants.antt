use Rattle.std.proofs.Common.{◌≡◌, ◌≤◌, drop, fold}
use Rattle.mp_tokens.specs.Literals.{with_digit, number_of}
use Rattle.mp_bytes.proofs.digits.number_up_to.Given as goal

abbrev pub invariant-loop-digit : goal.invariant-loop-digit
invariant-loop-digit l = record { small : l.number ≤ l.most; told : fold with_digit l.number (drop l.digit-index l.digits) ≡ number_of l.digits }
