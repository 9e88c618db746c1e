use Rattle.std.proofs.Common.{◌≡◌, ◌+◌, length, option_map}
use Rattle.mp_macro.specs.Plain.{mark_at}
use Rattle.mp_macro.proofs.plain.mark_at.Given as goal

abbrev pub invariant-bytes : goal.invariant-bytes
invariant-bytes l = record {
  within : l.length + length l.rest ≡ length l.bytes;
  told : option_map (λ n. l.length + n) (mark_at l.rest) ≡ mark_at l.bytes;
}

abbrev pub decreases-bytes : goal.decreases-bytes
decreases-bytes l = length l.rest
