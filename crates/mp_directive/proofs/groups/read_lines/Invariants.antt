use Rattle.std.proofs.Common.{◌≡◌, ◌≤◌, ◌+◌, length}
use Rattle.mp_directive.specs.Lines.{lines}
use Rattle.mp_directive.specs.Groups.{nothing_read, after_lines}
use Rattle.mp_directive.specs.Gives.{reading_of}
use Rattle.mp_directive.proofs.Weights.{reading_weight}
use Rattle.mp_directive.proofs.groups.read_lines.Given as goal

abbrev pub invariant-lines : goal.invariant-lines
invariant-lines l = record {
  counted : l.line + length l.rest ≤ length l.text + 1;
  few : reading_weight (reading_of l.reader) + length l.rest ≤ length l.text;
  told : after_lines l.line (lines l.rest) (reading_of l.reader) ≡ after_lines 1 (lines l.text) nothing_read;
}

abbrev pub decreases-lines : goal.decreases-lines
decreases-lines l = length l.rest
