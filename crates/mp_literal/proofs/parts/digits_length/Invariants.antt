use Rattle.std.proofs.Common.{◌≡◌, ◌+◌, drop}
use Rattle.mp_tokens.specs.Tokens.{digits_length}
use Rattle.mp_literal.proofs.parts.digits_length.Given as goal

abbrev pub invariant-loop-i : goal.invariant-loop-i
invariant-loop-i l = l.i + digits_length (drop l.i l.bytes) ≡ digits_length l.bytes
