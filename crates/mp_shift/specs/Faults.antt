-- Which auxiliaries get no name: one that is declared, or one that is too long (modpath's own).
use Rattle.std.specs.Prelude.{◌≡◌, ℕ, List, [], ◌∷◌, map, length, nat_lt, Bool, if◌then◌else◌, Option, Some, None, is_some, unwrap_or, slice_index_or}
use Rattle.std.specs.Option.{option_or}
use Rattle.std.specs.Str.{bytes_eq}
use Rattle.mp_base.specs.declared.kinds.DeclKind.TheVariants as k
use Rattle.mp_syntax.specs.Syntax.{Named}
use Rattle.mp_statements.specs.Statements.{Statement, Declares, Assigns, Model, Notes}
use Rattle.mp_declared.specs.Declared.{Fault, fault_if, first_fault}
use Rattle.mp_semantics.specs.Model as m
use Rattle.mp_values.specs.Names.{Names}
use Rattle.mp_names.specs.Named.{kind_in}
use Rattle.mp_solutions.specs.Auxiliaries.{Auxiliary, auxiliaries_of, auxiliary_name}
use Rattle.mp_shift.specs.Called.{names_in}
use Rattle.mp_shift.specs.declared.fault.ShiftFault.{ShiftFault}
use Rattle.mp_shift.specs.declared.fault.ShiftFault.TheVariants.{Declared, NoMemory}

-- the place of the first of these that has this name
abbrev pub place_among : List ℕ → List Named → Option ℕ
place_among name [] = None
place_among name (n ∷ ns) = if bytes_eq name n.name then Some n.at else place_among name ns

-- the place where a statement declares it
abbrev pub place_in : List ℕ → Statement → Option ℕ
place_in name (Declares kind names) = place_among name names
place_in name (Assigns parameter value) = None
place_in name (Model at choices items) = None
place_in name (Notes command names) = None

-- the place where the file declares it first
abbrev pub first_place : List ℕ → List Statement → Option ℕ
first_place name [] = None
first_place name (s ∷ more) = option_or (place_in name s) (first_place name more)

-- the same, or 0 where it declares no such name
abbrev pub declared_at : List Statement → List ℕ → ℕ
declared_at file name = unwrap_or (first_place name file) 0

-- a declared name is taken; no other thing has a name here
abbrev pub is_taken : Names → List ℕ → Bool
is_taken ns name = is_some (kind_in ns name)

-- an auxiliary's name must be new, and then have at most 128 bytes
abbrev pub naming_fault : List Statement → Names → List ℕ → List ℕ → Option Fault
naming_fault file ns name source =
    first_fault (fault_if (is_taken ns name) k.NameTaken name (declared_at file name) ∷ fault_if (nat_lt 128 (length name)) k.NameLong name (declared_at file source) ∷ [])

abbrev pub auxiliary_fault : List Statement → Names → Auxiliary → Option Fault
auxiliary_fault file ns a = naming_fault file ns (auxiliary_name ns.endogenous a) (slice_index_or ns.endogenous a.place [])

-- the first fault of these, in order
abbrev pub naming_faults : List Statement → Names → List Auxiliary → Option Fault
naming_faults file ns xs = first_fault (map (auxiliary_fault file ns) xs)

-- that of the model's auxiliaries, where a file declares its names
abbrev pub name_fault : List Statement → m.Model → Option Fault
name_fault file M = naming_faults file (names_in M) (auxiliaries_of M)

-- it tells this fault, or that there was no memory
abbrev pub Tells : Option Fault → ShiftFault → Type 0
Tells f (Declared kind name at) = f ≡ Some (record { kind = kind; name = name; at = at })
Tells f NoMemory = Unit {0}
