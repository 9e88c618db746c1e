use Rattle.std.proofs.Common.{◌≡◌, ◌-◌, map, take}
use Rattle.mp_blocks.proofs.blocks.places.Given as goal

abbrev pub invariant-numbers : goal.invariant-numbers
invariant-numbers l = l.places ≡ map (λ x. x - 1) (take l.i l.numbers)
