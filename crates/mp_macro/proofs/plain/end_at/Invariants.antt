use Rattle.std.proofs.Common.{◌≡◌, ◌+◌, length, option_map, false}
use Rattle.mp_macro.specs.Plain.{end_at}
use Rattle.mp_macro.proofs.plain.end_at.Given as goal

abbrev pub invariant-bytes : goal.invariant-bytes
invariant-bytes l = record {
  within : l.length + length l.rest ≡ length l.bytes;
  told : option_map (λ n. l.length + n) (end_at l.quoted l.rest) ≡ end_at false l.bytes;
}

abbrev pub decreases-bytes : goal.decreases-bytes
decreases-bytes l = length l.rest
