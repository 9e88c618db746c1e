-- A parameter with its value as the definitions see it.
use Rattle.std.specs.Prelude.{ℕ, List, Option, option_map}
use Rattle.mp_rational.specs.Fraction.{Fraction}
use Rattle.mp_frac.specs.Value.{value_of}
use Rattle.mp_names.specs.declared.table.Entry.{Entry}

abbrev pub entry_of : Entry → List ℕ × Option Fraction
entry_of e = (e.name.now, option_map value_of e.value)
