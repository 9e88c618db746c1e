-- Which parameters have no value yet.
use Rattle.std.specs.Prelude.{ℕ, List, Option, None, find}
use Rattle.mp_statements.specs.Statements.{Statement, Declares, Assigns, Model, Notes}
use Rattle.mp_declared.specs.Points.{Constant, reads}
use Rattle.mp_declared.specs.Declared.{is_missing, names_read}

-- the first name that the statement's value reads, where these have a value and it has none
abbrev pub early_in : List (List ℕ) → Statement → Option (List ℕ)
early_in given (Declares kind names) = None
early_in given (Assigns name value) = find (is_missing given) (names_read (reads Constant value))
early_in given (Model at choices items) = None
early_in given (Notes command names) = None
