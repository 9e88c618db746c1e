-- The refusal that a fault tells.
use Rattle.std.specs.Prelude.{Option, Some, None}
use Rattle.mp_base.specs.declared.kinds.MacroKind.{MacroKind}
use Rattle.mp_mvalue.specs.declared.fault.MacroFault.{MacroFault}
use Rattle.mp_mvalue.specs.declared.fault.MacroFault.TheVariants as f

-- the kind; want of memory tells none
abbrev pub told : MacroFault → Option MacroKind
told (f.Refused kind) = Some kind
told f.NoMemory = None
