use Rattle.std.proofs.Common.{◌≡◌, ◌≤◌, ◌+◌, drop, length}
use Rattle.mp_directive.specs.Lines.{lines}
use Rattle.mp_directive.specs.Groups.{AreAlone}
use Rattle.mp_directive.proofs.groups.run_length.Given as goal

abbrev pub invariant-lines : goal.invariant-lines
invariant-lines l = record {
  few : l.count + length l.rest ≤ length l.text;
  there : drop l.count (lines l.text) ≡ lines l.rest;
  alone : AreAlone (lines l.text) l.count (lines l.rest);
}

abbrev pub decreases-lines : goal.decreases-lines
decreases-lines l = length l.rest
