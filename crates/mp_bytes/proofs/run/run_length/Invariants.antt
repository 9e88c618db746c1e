use Rattle.std.proofs.Common.{◌≡◌, ◌+◌, drop}
use Rattle.std.specs.List.{prefix_len}
use Rattle.mp_bytes.specs.Runs.{goes_on}
use Rattle.mp_bytes.proofs.run.run_length.Given as goal

abbrev pub invariant-loop-i : goal.invariant-loop-i
invariant-loop-i l = l.i + prefix_len (goes_on l.run) (drop l.i l.bytes) ≡ prefix_len (goes_on l.run) l.bytes
