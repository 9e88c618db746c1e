-- What comes from the names that are read.
use Rattle.std.specs.Prelude.{◌≡◌, ◌^◌, ℕ, min, List, [], ◌∷◌, Option, Some, None, option_map, Result, Ok, Err}
use Rattle.std.specs.List.{flat_map}
use Rattle.mp_file.specs.Shown.{named_of}
use Rattle.mp_values.specs.Shifts as v
use Rattle.mp_values.specs.Shifts.{Shifts, Reading, shifts_from, first_far, far_name, with_item}
use Rattle.mp_statements.specs.Statements.{Item}
use Rattle.mp_local.specs.declared.ends.Ends.{Ends}
use Rattle.mp_local.specs.declared.far.FarName.{FarName}
use Rattle.mp_local.specs.declared.known.Known.{Known}
use Rattle.mp_local.specs.Ends.{Spans}
use Rattle.mp_local.specs.Known.{Knows}

-- a name with the greatest shift that comes from it
abbrev pub far_of : FarName → v.FarName
far_of x = record { name = named_of x.name; greatest = x.greatest }

-- a greatest shift is told up to 2^124 periods
abbrev pub stopped_far : v.FarName → v.FarName
stopped_far x = record { name = x.name; greatest = min x.greatest (2 ^ 124) }

-- the ends of all shifts that come from these names, none of which is beyond the limit; or the first name from which one is
abbrev pub Reaches : ℕ → Shifts → List Reading → Result (Option Ends) FarName → Type 0
Reaches limit s rs (Ok ends) = (first_far limit s rs ≡ None) × Spans ends (flat_map (shifts_from s) rs)
Reaches limit s rs (Err far) = option_map stopped_far (first_far limit s rs) ≡ Some (far_of far)

-- what is known after these items
abbrev pub with_items : Shifts → List Item → Shifts
with_items s [] = s
with_items s (x ∷ xs) = with_items (with_item s x) xs

-- the first name in these items from which a shift beyond the limit comes; or there is none, and this is known after them
abbrev pub Goes : ℕ → Shifts → List Item → Known → Option FarName → Type 0
Goes limit s items known None =
    (known.limit ≡ limit) × (far_name limit s items ≡ None) × Knows known (with_items s items)
Goes limit s items known (Some far) = option_map stopped_far (far_name limit s items) ≡ Some (far_of far)
