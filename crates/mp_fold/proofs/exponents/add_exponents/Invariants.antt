use Rattle.std.proofs.Common.{◌≡◌, map, drop}
use Rattle.mp_file.specs.Shown.{item_of}
use Rattle.mp_values.specs.Exponents.{all_exponents}
use Rattle.mp_fold.specs.Collected.{after}
use Rattle.mp_fold.proofs.exponents.add_exponents.Given as goal

abbrev pub invariant-turns : goal.invariant-turns
invariant-turns l =
    after l.found.items (all_exponents l.table (map item_of (drop l.item-index l.items))) ≡ after l.fn.found.items (all_exponents l.table (map item_of l.items))
