use Rattle.std.proofs.Common.{◌≡◌, ◌+◌, ◌≤◌, map, drop, length}
use Rattle.std.specs.List.{flat_map}
use Rattle.mp_statements.specs.Parts.{equations_in}
use Rattle.mp_file.specs.Shown.{item_of}
use Rattle.mp_decl.proofs.parts.equation_count.Given as goal

abbrev pub invariant-turns : goal.invariant-turns
invariant-turns l =
    (l.count + length (flat_map equations_in (map item_of (drop l.item-index l.items))) ≡ length (flat_map equations_in (map item_of l.items)))
    × (l.count ≤ l.item-index)
