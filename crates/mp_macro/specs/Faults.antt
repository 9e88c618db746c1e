-- The fault that a stop becomes.
use Rattle.mp_macro.specs.declared.fault.ExpandFault.{ExpandFault}
use Rattle.mp_macro.specs.declared.fault.ExpandFault.TheVariants as x
use Rattle.mp_macro.specs.declared.fault.Stop.{Stop}
use Rattle.mp_macro.specs.declared.fault.Stop.TheVariants as t

abbrev pub fault_of : Stop → ExpandFault
fault_of (t.Macro kind file line) = x.Macro kind file line
fault_of (t.Absent name) = x.Absent name
fault_of (t.ReadFault count) = x.ReadFault count
fault_of t.NoMemory = x.NoMemory
