use Rattle.std.proofs.Common.{◌≡◌, map, drop}
use Rattle.std.specs.List.{flat_map}
use Rattle.mp_declared.specs.Points.{item_points}
use Rattle.mp_file.specs.Shown.{item_of}
use Rattle.mp_decl.specs.Walk.{walk}
use Rattle.mp_decl.proofs.walk.walk_items.Given as goal

abbrev pub invariant-turns : goal.invariant-turns
invariant-turns l = walk l.known (flat_map item_points (map item_of (drop l.item-index l.items))) ≡ walk l.initial.known (flat_map item_points (map item_of l.items))
