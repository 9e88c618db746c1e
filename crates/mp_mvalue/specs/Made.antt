-- Texts and arrays within the limits.
use Rattle.std.specs.Prelude.{List, length, ◌&&◌, if◌then◌else◌, nat_le, Result, Ok, Err}
use Rattle.mp_base.specs.declared.kinds.MacroKind.{MacroKind}
use Rattle.mp_base.specs.declared.kinds.MacroKind.TheVariants.{ArrayLimit, TextLimit}
use Rattle.mp_mvalue.specs.declared.value.Value.{Value}
use Rattle.mp_mvalue.specs.declared.value.Value.TheVariants as v
use Rattle.mp_mvalue.specs.Values.{deepest, printed}

-- a value, or why there is none
abbrev pub Valued : Type 0
Valued = Result Value MacroKind

-- the value, where it prints in at most 8,388,608 bytes
abbrev pub printable : Value → Valued
printable x = if nat_le (length (printed x)) 8388608 then Ok x else Err TextLimit

-- the array, of at most 100,000 elements and with at most 100 arrays inside one another
abbrev pub made : List Value → Valued
made xs = if nat_le (length xs) 100000 && nat_le (deepest xs) 99 then printable (v.List xs) else Err ArrayLimit
