-- How many names a file may declare (modpath's own).
use Rattle.std.specs.Prelude.{ℕ, ◌+◌, List, [], ◌∷◌, ◌++◌, map, nat_lt, not, if◌then◌else◌, Option, Some, None}
use Rattle.std.specs.List.{flat_map}
use Rattle.mp_statements.specs.declared.kind.NameKind.{NameKind}
use Rattle.mp_statements.specs.declared.kind.NameKind.TheVariants as kind
use Rattle.mp_syntax.specs.Syntax.{Named}
use Rattle.mp_statements.specs.Statements.{Statement, Declares, Assigns, Model, Notes}
use Rattle.mp_statements.specs.Parts.{is_kind}

-- the most names of a kind
abbrev pub most_names : NameKind → ℕ
most_names kind.Endogenous = 200
most_names kind.Exogenous = 1000
most_names kind.Parameter = 1000

-- a declared name, and its kind
abbrev pub declared_in : Statement → List (NameKind × Named)
declared_in (Declares kind names) = map (λ n. (kind, n)) names
declared_in (Assigns name value) = []
declared_in (Model at choices items) = []
declared_in (Notes command names) = []

-- how many of these are of this kind
abbrev pub count_kind : NameKind → List (NameKind × Named) → ℕ
count_kind k [] = 0
count_kind k (x ∷ xs) = if is_kind k x.0 then 1 + count_kind k xs else count_kind k xs

-- the first name, after these, of a kind that has its most names before it
abbrev pub first_beyond : List (NameKind × Named) → List (NameKind × Named) → Option (NameKind × Named)
first_beyond before [] = None
first_beyond before (x ∷ xs) =
    if not (nat_lt (count_kind x.0 before) (most_names x.0)) then Some x else first_beyond (before ++ x ∷ []) xs

-- the first name too many in text order, of any kind
abbrev pub name_beyond : List Statement → Option (NameKind × Named)
name_beyond file = first_beyond [] (flat_map declared_in file)
