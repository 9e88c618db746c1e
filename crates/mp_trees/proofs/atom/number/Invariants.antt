use Rattle.std.proofs.Common.{◌≡◌, ◌≤◌, ◌^◌, drop}
use Rattle.std.specs.List.{fold}
use Rattle.mp_tokens.specs.Literals.{with_digit, number_of}
use Rattle.mp_trees.proofs.atom.number.Given as goal

abbrev pub invariant-loop-digit : goal.invariant-loop-digit
invariant-loop-digit l = record {
  small : l.value ≤ 10 ^ 37;
  whole : fold with_digit l.value (drop l.digit-index l.digits) ≡ number_of l.digits;
}
