-- Which name a number means.
use Rattle.std.specs.Prelude.{ℕ, ◌-◌, ◌≤◌, List, [], length, slice_index_or}
use Rattle.mp_names.specs.declared.names.NameId.{NameId}
use Rattle.mp_names.specs.declared.names.NameId.TheVariants.{Endo, Exo, Param}
use Rattle.mp_values.specs.Names.{Names}

-- a number from 1 of one of these names
abbrev pub IsNumbered : List (List ℕ) → ℕ → Type 0
IsNumbered names n = (1 ≤ n) × (n ≤ length names)

abbrev pub IsNamed : Names → NameId → Type 0
IsNamed names (Endo n) = IsNumbered names.endogenous n
IsNamed names (Exo n) = IsNumbered names.exogenous n
IsNamed names (Param n) = IsNumbered names.parameters n

abbrev pub name_of : Names → NameId → List ℕ
name_of names (Endo n) = slice_index_or names.endogenous (n - 1) []
name_of names (Exo n) = slice_index_or names.exogenous (n - 1) []
name_of names (Param n) = slice_index_or names.parameters (n - 1) []
