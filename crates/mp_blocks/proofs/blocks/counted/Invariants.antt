use Rattle.std.proofs.Common.{◌≡◌, suc, map, take}
use Rattle.mp_blocks.proofs.blocks.counted.Given as goal

abbrev pub invariant-places : goal.invariant-places
invariant-places l = l.numbers ≡ map suc (take l.i l.places)
