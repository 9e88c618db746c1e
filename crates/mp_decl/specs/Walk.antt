-- The points of a file, one after the other.
use Rattle.std.specs.Prelude.{ℕ, List, [], ◌∷◌, ◌++◌, codes, Bool, true, false, not, if◌then◌else◌, option_map, Option, Some, None, Result, Ok, Err}
use Rattle.std.specs.List.{list_any}
use Rattle.std.specs.Option.{option_or}
use Rattle.std.specs.Str.{bytes_eq}
use Rattle.mp_base.specs.declared.kinds.DeclKind.TheVariants as k
use Rattle.mp_names.specs.Named.{no_names, kind_in, with_name}
use Rattle.mp_decl.specs.declared.known.Known.{Known}
use Rattle.mp_declared.specs.Points.{Point, Declared, Assigned, Begins, Chosen, Defines, Defined, Reads, Differs, Tagged, Noted}
use Rattle.mp_declared.specs.Declared.{Standing, Of, ALocal, Fault, fault_if, new_fault, assigned_fault, option_fault, read_fault, diff_fault, tag_fault, noted_fault}

abbrev pub nothing_known : Known
nothing_known = record { names = no_names; locals = []; begun = false; chosen = [] }

-- with one more name, unless it is there
abbrev pub with_new : List ℕ → List (List ℕ) → List (List ℕ)
with_new name names = if not (list_any (bytes_eq name) names) then names ++ name ∷ [] else names

abbrev pub local_standing : Bool → Option Standing
local_standing is_local = if is_local then Some ALocal else None

-- what a name stands for, if it is there
abbrev pub standing_in : Known → List ℕ → Option Standing
standing_in f name = option_or (option_map Of (kind_in f.names name)) (local_standing (list_any (bytes_eq name) f.locals))

-- what is known with one more point
abbrev pub with_point : Known → Point → Known
with_point f (Declared kind n) = record f { names = with_name kind n.name f.names }
with_point f (Begins at) = record f { begun = true }
with_point f (Chosen c) = record f { chosen = with_new c.name.name f.chosen }
with_point f (Defined n) = record f { locals = with_new n.name f.locals }
with_point f _ = f

-- the fault of a point, by what is known of those before it
abbrev pub point_fault : Known → Point → Option Fault
point_fault f (Declared kind n) = new_fault n (standing_in f n.name)
point_fault f (Assigned n) = assigned_fault n (standing_in f n.name)
point_fault f (Begins at) = fault_if f.begun k.BlockTwice (codes "model") at
point_fault f (Chosen c) = option_fault c (list_any (bytes_eq c.name.name) f.chosen)
point_fault f (Defines n) = new_fault n (standing_in f n.name)
point_fault f (Defined n) = None
point_fault f (Reads r n shift) = read_fault r n shift (standing_in f n.name)
point_fault f (Differs r at) = diff_fault r at
point_fault f (Tagged before t) = tag_fault before t
point_fault f (Noted n) = noted_fault n (standing_in f n.name)

-- what is known further on, where there is no fault
abbrev pub unless : Option Fault → Result Known Fault → Result Known Fault
unless (Some fault) rest = Err fault
unless None rest = rest

-- what is known after these points, or the first fault
abbrev pub walk : Known → List Point → Result Known Fault
walk f [] = Ok f
walk f (p ∷ ps) = unless (point_fault f p) (walk (with_point f p) ps)

-- the same after points of expressions, of which the first that fails was found
abbrev pub walked_by : Known → Option Point → Result Known Fault
walked_by f None = Ok f
walked_by f (Some p) = unless (point_fault f p) (Ok f)
