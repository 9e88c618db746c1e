use Rattle.std.proofs.Common.{◌≡◌, length}
use Rattle.mp_macro.specs.Plain.{pieces}
use Rattle.mp_macro.specs.States.{after_pieces}
use Rattle.mp_macro.specs.Says.{state_of}
use Rattle.mp_macro.proofs.plain.write_line.Given as goal

abbrev pub invariant-pieces : goal.invariant-pieces
invariant-pieces l = after_pieces (pieces l.rest) (state_of l.state) ≡ after_pieces (pieces l.line) (state_of l.fn.state)

abbrev pub decreases-pieces : goal.decreases-pieces
decreases-pieces l = length l.rest
