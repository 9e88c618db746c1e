use Rattle.std.proofs.Common.{◌≡◌, ◌≤◌, length, take}
use Rattle.mp_tokens.specs.Literals.{without_end_zeros}
use Rattle.mp_literal.proofs.parts.without_end_zeros.Given as goal

abbrev pub invariant-loop-count : goal.invariant-loop-count
invariant-loop-count l = record {
  within : l.count ≤ length l.digits;
  told : without_end_zeros (take l.count l.digits) ≡ without_end_zeros l.digits;
}

abbrev pub decreases-loop-count : goal.decreases-loop-count
decreases-loop-count l = l.count
