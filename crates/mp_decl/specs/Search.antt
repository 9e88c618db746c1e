-- Which points are sought.
use Rattle.std.specs.Prelude.{ℕ, List, [], Bool, false, is_some}
use Rattle.mp_declared.specs.Points.{Point, Reads}
use Rattle.mp_declared.specs.Declared.{is_missing}
use Rattle.mp_decl.specs.declared.search.Search.{Search}
use Rattle.mp_decl.specs.declared.search.Search.TheVariants.{Faulty, Missing}
use Rattle.mp_decl.specs.Walk.{point_fault}

-- the name that a point reads, if it does
abbrev pub name_in : Point → List ℕ
name_in (Reads r n shift) = n.name
name_in _ = []

-- a name that is read and is not in the list
abbrev pub is_unlisted : List (List ℕ) → Point → Bool
is_unlisted given (Reads r n shift) = is_missing given n.name
is_unlisted given _ = false

abbrev pub sought_by : Search → Point → Bool
sought_by (Faulty known) point = is_some (point_fault known.now point)
sought_by (Missing given) point = is_unlisted given.now point
