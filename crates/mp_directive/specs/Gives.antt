-- What the code's answers stand for.
use Rattle.std.specs.Prelude.{List, map, reverse, Option, Some, None}
use Rattle.mp_base.specs.declared.kinds.MacroKind.{MacroKind}
use Rattle.mp_directive.specs.Groups as g
use Rattle.mp_directive.specs.Shown.{group_of, nodes_of}
use Rattle.mp_directive.specs.declared.fault.LineFault.{LineFault}
use Rattle.mp_directive.specs.declared.fault.LineFault.TheVariants as l
use Rattle.mp_directive.specs.declared.fault.TreeFault.{TreeFault}
use Rattle.mp_directive.specs.declared.fault.TreeFault.TheVariants as f
use Rattle.mp_directive.specs.declared.groups.Group.{Group}
use Rattle.mp_directive.specs.declared.groups.Reader.{Reader}

-- the groups that are open, the innermost first; in the code it stands last
abbrev pub stack_of : List Group → List g.Group
stack_of gs = reverse (map group_of gs)

-- what was read
abbrev pub reading_of : Reader → g.Reading
reading_of r = record { groups = stack_of r.groups; nodes = nodes_of r.nodes }

-- the kind that a line's fault tells; want of memory tells none
abbrev pub told_kind : LineFault → Option MacroKind
told_kind (l.Refused kind) = Some kind
told_kind l.NoMemory = None

-- the kind and the line that a file's fault tells
abbrev pub told : TreeFault → Option g.Fault
told (f.Refused kind line) = Some (record { kind = kind; line = line })
told f.NoMemory = None
