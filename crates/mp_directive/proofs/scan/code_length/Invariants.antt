use Rattle.std.proofs.Common.{◌≡◌, ◌+◌, length, false}
use Rattle.mp_directive.specs.Directives.{code_length}
use Rattle.mp_directive.proofs.scan.code_length.Given as goal

abbrev pub invariant-bytes : goal.invariant-bytes
invariant-bytes l = record {
  within : l.length + length l.rest ≡ length l.bytes;
  told : l.length + code_length l.quoted l.rest ≡ code_length false l.bytes;
}

abbrev pub decreases-bytes : goal.decreases-bytes
decreases-bytes l = length l.rest
