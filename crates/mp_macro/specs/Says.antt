-- What the code's answers stand for.
use Rattle.std.specs.Prelude.{◌≡◌, ℕ, List, Option, Some, IfSome, Result, Ok, Err}
use Rattle.mp_base.specs.declared.kinds.MacroKind.{MacroKind}
use Rattle.mp_outside.specs.Outside.{Outside, Listing, Rose}
use Rattle.mp_mvalue.specs.Environments.{value_in}
use Rattle.mp_mvalue.specs.declared.fault.MacroFault.{MacroFault}
use Rattle.mp_mvalue.specs.declared.fault.MacroFault.TheVariants as m
use Rattle.mp_macro.specs.States as s
use Rattle.mp_macro.specs.Expansion as e
use Rattle.mp_macro.specs.declared.fault.ExpandFault.{ExpandFault}
use Rattle.mp_macro.specs.declared.fault.ExpandFault.TheVariants as x
use Rattle.mp_macro.specs.declared.fault.Stop.{Stop}
use Rattle.mp_macro.specs.declared.fault.Stop.TheVariants as t
use Rattle.mp_macro.specs.declared.state.State.{State}

-- the state of the code
abbrev pub state_of : State → s.State
state_of x = record { names = value_in x.env; turns = x.turns; text = x.text }

-- what was returned is an answer for a line, with its file and line; or there was no memory
abbrev pub Placed : {X : Type 0} → Result X MacroFault → List ℕ → ℕ → Result X Stop → Type 0
Placed answer file line (Ok x) = answer ≡ Ok x
Placed answer file line (Err (t.Macro kind f l)) = (answer ≡ Err (m.Refused kind)) × (f ≡ file) × (l ≡ line)
Placed answer file line (Err (t.Absent name)) = ⊥
Placed answer file line (Err (t.ReadFault count)) = ⊥
Placed answer file line (Err t.NoMemory) = Unit {0}

-- a refusal at this line of this file, or there was no memory
abbrev pub Refuses : MacroKind → List ℕ → ℕ → Stop → Type 0
Refuses kind file line (t.Macro k f l) = (k ≡ kind) × (f ≡ file) × (l ≡ line)
Refuses kind file line (t.Absent name) = ⊥
Refuses kind file line (t.ReadFault count) = ⊥
Refuses kind file line t.NoMemory = Unit {0}

-- a file is absent, or there was no memory
abbrev pub Misses : List ℕ → Stop → Type 0
Misses name (t.Absent n) = n ≡ name
Misses name (t.Macro kind file line) = ⊥
Misses name (t.ReadFault count) = ⊥
Misses name t.NoMemory = Unit {0}

-- what was returned without a further file, seen by view, is what is meant, unless there was no memory
abbrev pub SaysHere : {X Y : Type 0} → (Y → X) → Result Y Stop → Result X e.Refusal → Type 0
SaysHere view (Ok y) meant = meant ≡ Ok (view y)
SaysHere view (Err (t.Macro kind file line)) meant = meant ≡ Err (e.Macro kind file line)
SaysHere view (Err (t.Absent name)) meant = ⊥
SaysHere view (Err (t.ReadFault count)) meant = ⊥
SaysHere view (Err t.NoMemory) meant = Unit {0}

-- in each listing that is told this is given
abbrev pub Told : {X : Type 0} → Outside → (Listing → X) → X → Type 0
Told before gives x = (l : Listing) → before.listing ≡ Some l → gives l ≡ x

-- a part of a file was expanded, or the expansion stops: where the listing is told, as is meant; told or not, a file is
-- absent, or reading has failed, only where the count of it rose
abbrev pub Says : {X : Type 0} → X → Outside → Outside → (Listing → Result X e.Refusal) → Result (Unit {0}) Stop → Type 0
Says new before now gives (Ok u) = Told before gives (Ok new)
Says new before now gives (Err (t.Macro kind file line)) = Told before gives (Err (e.Macro kind file line))
Says new before now gives (Err (t.Absent name)) = Rose before.absents now.absents × Told before gives (Err (e.Absent name))
Says new before now gives (Err (t.ReadFault count)) = Rose before.faults now.faults × (count ≡ now.faults)
Says new before now gives (Err t.NoMemory) = Unit {0}

-- where the files tell their listing the answer is what it gives; want of memory and a fault of reading may come in place
abbrev pub SaysText : Option Listing → (Listing → Result (List ℕ) e.Refusal) → Result (List ℕ) ExpandFault → Type 0
SaysText told gives (Ok text) = IfSome told (λ l. gives l ≡ Ok text)
SaysText told gives (Err (x.Macro kind file line)) = IfSome told (λ l. gives l ≡ Err (e.Macro kind file line))
SaysText told gives (Err (x.Absent name)) = IfSome told (λ l. gives l ≡ Err (e.Absent name))
SaysText told gives (Err (x.ReadFault count)) = Unit {0}
SaysText told gives (Err x.NoMemory) = Unit {0}

-- told or not, a file is absent, or reading has failed, only where the count of it rose
abbrev pub ShowsCause : Outside → Outside → ExpandFault → Type 0
ShowsCause before now (x.Absent name) = Rose before.absents now.absents
ShowsCause before now (x.ReadFault count) = Rose before.faults now.faults × (count ≡ now.faults)
ShowsCause before now _ = Unit {0}
