-- Names with their values.
use Rattle.std.specs.Prelude.{◌≡◌, ℕ, List, Option, bytes_eq, if◌then◌else◌}
use Rattle.std.specs.Map.{lookup}
use Rattle.mp_mvalue.specs.declared.value.Value.{Value}

-- names with values, no two of one name
abbrev pub Environment : Type 0
Environment = List (List ℕ × Value)

-- the value of a name
abbrev pub value_in : Environment → List ℕ → Option Value
value_in env name = lookup (bytes_eq name) env

-- the second has this value at this name, and at every other the first's
abbrev pub Has : Environment → Environment → List ℕ → Option Value → Type 0
Has old new name value = (other : List ℕ) → value_in new other ≡ (if bytes_eq name other then value else value_in old other)

-- the value of each name that has one
abbrev pub Names : Type 0
Names = List ℕ → Option Value
