-- The tests of a whole file, by what the walk found.
use Rattle.std.specs.Prelude.{ℕ, List, [], ◌∷◌, length, not, ◌==◌, find, Option}
use Rattle.std.specs.List.{flat_map}
use Rattle.std.specs.Option.{option_or}
use Rattle.mp_base.specs.declared.kinds.DeclKind.TheVariants as k
use Rattle.mp_statements.specs.Statements.{Statement}
use Rattle.mp_statements.specs.Parts.{equations_of}
use Rattle.mp_declared.specs.Declared.{Fault, fault_if, first_fault, is_missing, read_early, assigned_in, equation_names, first_shared, gap_fault, value_fault}
use Rattle.mp_decl.specs.declared.known.Known.{Known}

-- the first of these parameters that has no value where it needs one
abbrev pub unvalued_in : List Statement → List (List ℕ) → Option (List ℕ)
unvalued_in file parameters = option_or (read_early [] file) (find (is_missing (flat_map assigned_in file)) parameters)

-- the first fault of the file as a whole, by what is known after its points
abbrev pub whole_fault_by : ℕ → Known → List Statement → Option Fault
whole_fault_by end f file =
    first_fault (fault_if (not f.begun) k.NoModel [] end ∷ fault_if (length f.names.endogenous == 0) k.Empty [] end ∷ gap_fault end (first_shared (equation_names (equations_of file))) ∷ fault_if (not (length (equations_of file) == length f.names.endogenous)) k.EquationCount [] end ∷ value_fault end (unvalued_in file f.names.parameters) ∷ [])
