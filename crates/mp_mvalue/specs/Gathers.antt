-- What is known of gathered elements.
use Rattle.std.specs.Prelude.{◌≡◌, ◌≤◌, min, List, length}
use Rattle.mp_mvalue.specs.declared.value.Value.{Value}
use Rattle.mp_mvalue.specs.declared.gathered.Gathered.{Gathered}
use Rattle.mp_mvalue.specs.Values.{deepest}
use Rattle.mp_mvalue.specs.Measures.{spread}
use Rattle.mp_mvalue.specs.Shared.{all_unshared}

-- within the limits of an array
abbrev pub IsWithin : List Value → Type 0
IsWithin xs = (length xs ≤ 100000) × (deepest xs ≤ 99) × (spread xs ≤ 8388608)

-- these elements were gathered: they are counted and measured, and kept within the limits
pub record Gathers (g : Gathered) (xs : List Value) : Type 0 where
  pub count : g.count ≡ min 100001 (length xs)
  pub deepest : g.deepest ≡ min 100 (deepest xs)
  pub length : g.length ≡ min 8388609 (spread xs)
  pub kept : IsWithin xs → all_unshared g.kept ≡ xs
