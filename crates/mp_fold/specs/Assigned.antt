-- What an assignment does.
use Rattle.std.specs.Prelude.{◌≡◌, List, [], ◌∷◌, Some, Result, Ok, Err}
use Rattle.mp_statements.specs.Statements.{Statement, Declares, Assigns, Model, Notes}
use Rattle.mp_values.specs.Table.{Table, with_value}
use Rattle.mp_values.specs.Limits.{Folded, ◌>>=◌}
use Rattle.mp_values.specs.Values.{folded}
use Rattle.mp_fold.specs.declared.fault.FoldFault.{FoldFault}
use Rattle.mp_fold.specs.Shown.{stuck_of}

-- the parameters after a statement
abbrev pub after_statement : Table → Statement → Folded Table
after_statement t (Declares kind names) = Ok t
after_statement t (Assigns name value) = folded t value >>= λ x. Ok (with_value name.name (Some x) t)
after_statement t (Model at choices items) = Ok t
after_statement t (Notes command names) = Ok t

-- goes on with what there is, or stays where it was
abbrev pub or_stays : Table → Folded Table → (Table → Table) → Table
or_stays t (Ok u) next = next u
or_stays t (Err e) next = t

-- the parameters after these statements, or before the first assignment that is refused
abbrev pub reached : Table → List Statement → Table
reached t [] = t
reached t (x ∷ more) = or_stays t (after_statement t x) (λ u. reached u more)

-- a call left this table, as was given, or tells why nothing was
abbrev pub Took : {X : Type 0} → Result X FoldFault → Table → Folded Table → Type 0
Took (Ok x) new given = given ≡ Ok new
Took (Err e) new given = given ≡ Err (stuck_of e)
