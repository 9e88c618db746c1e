use Rattle.std.proofs.Common.{◌≡◌, length}
use Rattle.mp_trial.proofs.evaluated.evaluated.Given as goal

abbrev pub invariant-turns : goal.invariant-turns
invariant-turns g l = record {
  marks_room : length l.scratch.marks.items ≡ length l.fn.scratch.marks.items;
  sizes_room : length l.scratch.sizes.items ≡ length l.fn.scratch.sizes.items;
  values_room : length l.scratch.values.items ≡ length l.fn.scratch.values.items;
}
