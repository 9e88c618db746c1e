-- What the walk over a file answers.
use Rattle.std.specs.Prelude.{◌≡◌, List, Option, Some, None, Result, Ok, Err}
use Rattle.mp_declared.specs.Points.{Point}
use Rattle.mp_declared.specs.Declared.{Fault}
use Rattle.mp_decl.specs.declared.fault.DeclFault.{DeclFault}
use Rattle.mp_decl.specs.declared.fault.DeclFault.TheVariants as f
use Rattle.mp_decl.specs.declared.known.Known.{Known}
use Rattle.mp_decl.specs.Walk.{walk}

-- this is the first fault of the walk, or there was no memory
abbrev pub Stops : DeclFault → Result Known Fault → Type 0
Stops (f.Declared kind name at) walked = walked ≡ Err (record { kind = kind; name = name; at = at })
Stops (f.Data refused) walked = ⊥
Stops f.NoMemory walked = Unit {0}

-- a call went as far as the walk did, or stopped at its fault
abbrev pub Went : {X : Type 0} → Result X DeclFault → Known → Result Known Fault → Type 0
Went (Ok x) new walked = walked ≡ Ok new
Went (Err fault) new walked = Stops fault walked

-- a call took what is known from old to new by these points, or stopped at their first fault
abbrev pub Walks : {X : Type 0} → Result X DeclFault → Known → Known → List Point → Type 0
Walks result old new points = Went result new (walk old points)

-- this is the fault, or there was no memory
abbrev pub Is : DeclFault → Option Fault → Type 0
Is (f.Declared kind name at) fault = fault ≡ Some (record { kind = kind; name = name; at = at })
Is (f.Data refused) fault = ⊥
Is f.NoMemory fault = Unit {0}

-- a test found no fault, or this one
abbrev pub Finds : {X : Type 0} → Result X DeclFault → Option Fault → Type 0
Finds (Ok x) fault = fault ≡ None
Finds (Err e) fault = Is e fault
