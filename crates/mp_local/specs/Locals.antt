-- A table of local variables.
use Rattle.std.specs.Prelude.{ℕ, List, Option}
use Rattle.std.specs.Str.{bytes_eq}
use Rattle.std.specs.Map.{lookup}
use Rattle.std.specs.Borrow.{Bor}
use Rattle.mp_local.specs.declared.ends.Ends.{Ends}

-- what these have for a name
abbrev pub ends_in : List (Bor (List ℕ) × Option Ends) → List ℕ → Option (Option Ends)
ends_in entries name = lookup (λ k. bytes_eq name k.now) entries
