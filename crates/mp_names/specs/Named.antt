-- Names of three kinds, of which one may be added.
use Rattle.std.specs.Prelude.{ℕ, List, [], ◌∷◌, ◌++◌, if◌then◌else◌, Option, Some, None}
use Rattle.std.specs.List.{list_any}
use Rattle.std.specs.Str.{bytes_eq}
use Rattle.mp_statements.specs.declared.kind.NameKind.{NameKind}
use Rattle.mp_statements.specs.declared.kind.NameKind.TheVariants as kind
use Rattle.mp_values.specs.Names.{Names}

abbrev pub no_names : Names
no_names = record { endogenous = []; exogenous = []; parameters = [] }

-- the names of this kind
abbrev pub of_kind : NameKind → Names → List (List ℕ)
of_kind kind.Endogenous ns = ns.endogenous
of_kind kind.Exogenous ns = ns.exogenous
of_kind kind.Parameter ns = ns.parameters

-- the kind of a name, if it is there
abbrev pub kind_in : Names → List ℕ → Option NameKind
kind_in ns name =
    if list_any (bytes_eq name) ns.endogenous then Some kind.Endogenous else if list_any (bytes_eq name) ns.exogenous then Some kind.Exogenous else if list_any (bytes_eq name) ns.parameters then Some kind.Parameter else None

-- the names with one more of this kind
abbrev pub with_name : NameKind → List ℕ → Names → Names
with_name kind.Endogenous name ns = record ns { endogenous = ns.endogenous ++ name ∷ [] }
with_name kind.Exogenous name ns = record ns { exogenous = ns.exogenous ++ name ∷ [] }
with_name kind.Parameter name ns = record ns { parameters = ns.parameters ++ name ∷ [] }
