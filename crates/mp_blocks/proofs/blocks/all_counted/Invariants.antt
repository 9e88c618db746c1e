use Rattle.std.proofs.Common.{◌≡◌, suc, map, take}
use Rattle.mp_blocks.proofs.blocks.all_counted.Given as goal

abbrev pub invariant-lists : goal.invariant-lists
invariant-lists l = l.list ≡ map (map suc) (take l.p l.blocks)
