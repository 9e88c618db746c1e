-- Which files declare their model: each name once and before it is read, one model block, as many equations as variables, and a value for each parameter (Dynare manual, "The model file"; which fault is named is modpath's own).
use Rattle.std.specs.Prelude.{ℕ, List, [], ◌∷◌, map, length, take, codes, Bool, true, false, not, ◌&&◌, ◌||◌, ◌==◌, if◌then◌else◌, Option, Some, None, find}
use Rattle.std.specs.Option.{option_or, is_some}
use Rattle.std.specs.List.{flat_map, list_any}
use Rattle.std.specs.Str.{bytes_eq}
use Rattle.mp_base.specs.declared.kinds.DeclKind.{DeclKind}
use Rattle.mp_base.specs.declared.kinds.DeclKind.TheVariants as k
use Rattle.mp_statements.specs.declared.kind.NameKind.{NameKind}
use Rattle.mp_statements.specs.declared.kind.NameKind.TheVariants as kind
use Rattle.mp_syntax.specs.Syntax.{Shift, Named}
use Rattle.mp_statements.specs.Statements.{Choice, Tag, Equation, Statement, Declares, Assigns, Model, Notes}
use Rattle.mp_statements.specs.Parts.{names_of, equations_of, is_tag, name_of}
use Rattle.mp_declared.specs.Points.{Reader, InModel, Constant, Point, Declared, Assigned, Begins, Chosen, Defines, Defined, Reads, Differs, Tagged, Noted, reads, points_of, with_earlier}

-- why a file is refused: the kind, at most 128 bytes of the name that fails, and a place
pub record Fault : Type 0 where
  pub kind : DeclKind
  pub name : List ℕ
  pub at : ℕ

-- what a name stands for: what it was declared as, or a local variable
pub data Standing : Type 0 where
  Of : (kind : NameKind) → Standing
  ALocal : Standing

abbrev pub begins : Point → Bool
begins (Begins at) = true
begins _ = false

abbrev pub gives_option : List ℕ → Point → Bool
gives_option name (Chosen c) = bytes_eq name c.name.name
gives_option name _ = false

-- what a name that was declared before stands for; all names are in one space
abbrev pub standing_of : List ℕ → List Point → Option Standing
standing_of name [] = None
standing_of name (Declared kind n ∷ ps) = if bytes_eq name n.name then Some (Of kind) else standing_of name ps
standing_of name (Defined n ∷ ps) = if bytes_eq name n.name then Some ALocal else standing_of name ps
standing_of name (_ ∷ ps) = standing_of name ps

abbrev pub is_parameter : Standing → Bool
is_parameter (Of kind.Parameter) = true
is_parameter _ = false

abbrev pub is_variable : Standing → Bool
is_variable (Of kind.Endogenous) = true
is_variable (Of kind.Exogenous) = true
is_variable _ = false

-- an expression of the model reads any name, and whatever is a constant reads parameters
abbrev pub may_read : Reader → Standing → Bool
may_read InModel s = true
may_read Constant s = is_parameter s

-- the fault, where the test says that there is one
abbrev pub fault_if : Bool → DeclKind → List ℕ → ℕ → Option Fault
fault_if wrong kind name at = if wrong then Some (record { kind = kind; name = take 128 name; at = at }) else None

-- the first fault of several tests
abbrev pub first_fault : List (Option Fault) → Option Fault
first_fault [] = None
first_fault (None ∷ more) = first_fault more
first_fault (Some f ∷ more) = Some f

-- a name is declared once
abbrev pub new_fault : Named → Option Standing → Option Fault
new_fault n standing = fault_if (is_some standing) k.Twice n.name n.at

-- a name that is given a value is a parameter
abbrev pub assigned_fault : Named → Option Standing → Option Fault
assigned_fault n None = fault_if true k.Undeclared n.name n.at
assigned_fault n (Some s) = fault_if (not (is_parameter s)) k.WrongKind n.name n.at

-- a name that is read was declared, may be read there, and is shifted only where it is a variable
abbrev pub read_fault : Reader → Named → Option Shift → Option Standing → Option Fault
read_fault r n shift None = fault_if true k.Undeclared n.name n.at
read_fault r n shift (Some s) =
    first_fault (fault_if (not (may_read r s)) k.WrongKind n.name n.at ∷ fault_if (not (is_variable s) && is_some shift) k.Shift n.name n.at ∷ [])

-- a `diff` stands in an expression of the model
abbrev pub diff_fault : Reader → ℕ → Option Fault
diff_fault InModel at = None
diff_fault Constant at = fault_if true k.Place (codes "diff") at

-- the options of a model block, which are taken and not used (Dynare manual, "The model block")
abbrev pub model_options : List (List ℕ)
model_options = codes "linear" ∷ codes "block" ∷ codes "bytecode" ∷ codes "use_dll" ∷ codes "no_static" ∷ []

abbrev pub is_known_option : List ℕ → Bool
is_known_option name = list_any (bytes_eq name) model_options

-- an option of a model block is one of these, is given nothing, and is given once
abbrev pub option_fault : Choice → Bool → Option Fault
option_fault c again =
    fault_if (not (is_known_option c.name.name) || is_some c.setting || again) k.Option c.name.name c.name.at

-- tags whose texts are not read yet: those of pairs and of regimes
abbrev pub is_unread_tag : List ℕ → Bool
is_unread_tag name = bytes_eq name (codes "mcp") || (bytes_eq name (codes "bind") || bytes_eq name (codes "relax"))

-- tags that are used; all others are read and dropped
abbrev pub is_used_tag : List ℕ → Bool
is_used_tag name = bytes_eq name (codes "name") || is_unread_tag name

-- a used tag stands once, and its text has a reading
abbrev pub tag_fault : List Tag → Tag → Option Fault
tag_fault before t =
    first_fault (fault_if (is_used_tag t.name.name && list_any (is_tag t.name.name) before) k.TagTwice t.name.name t.name.at ∷ fault_if (is_unread_tag t.name.name) k.TagText t.name.name t.at ∷ [])

-- a name in a noted command is a declared one
abbrev pub noted_fault : Named → Option Standing → Option Fault
noted_fault n None = fault_if true k.Undeclared n.name n.at
noted_fault n (Some s) = None

-- the fault of a point by what stands before it
abbrev pub fault_at : List Point → Point → Option Fault
fault_at earlier (Declared kind n) = new_fault n (standing_of n.name earlier)
fault_at earlier (Assigned n) = assigned_fault n (standing_of n.name earlier)
fault_at earlier (Begins at) = fault_if (list_any begins earlier) k.BlockTwice (codes "model") at
fault_at earlier (Chosen c) = option_fault c (list_any (gives_option c.name.name) earlier)
fault_at earlier (Defines n) = new_fault n (standing_of n.name earlier)
fault_at earlier (Defined n) = None
fault_at earlier (Reads r n shift) = read_fault r n shift (standing_of n.name earlier)
fault_at earlier (Differs r at) = diff_fault r at
fault_at earlier (Tagged before t) = tag_fault before t
fault_at earlier (Noted n) = noted_fault n (standing_of n.name earlier)

-- the first point that fails by what stands before it
abbrev pub walk_fault : List Statement → Option Fault
walk_fault file = first_fault (map (λ q. fault_at q.0 q.1) (with_earlier (points_of file)))

abbrev pub has_model : List Statement → Bool
has_model file = list_any begins (points_of file)

-- the names that are read
abbrev pub names_read : List Point → List (List ℕ)
names_read [] = []
names_read (Reads r n shift ∷ ps) = n.name ∷ names_read ps
names_read (_ ∷ ps) = names_read ps

-- none of these has this name
abbrev pub is_missing : List (List ℕ) → List ℕ → Bool
is_missing given name = not (list_any (bytes_eq name) given)

-- the first parameter that an assignment reads before it has a value, where these have one
abbrev pub read_early : List (List ℕ) → List Statement → Option (List ℕ)
read_early given [] = None
read_early given (Declares kind names ∷ more) = read_early given more
read_early given (Assigns name value ∷ more) =
    option_or (find (is_missing given) (names_read (reads Constant value))) (read_early (name.name ∷ given) more)
read_early given (Model at choices items ∷ more) = read_early given more
read_early given (Notes command names ∷ more) = read_early given more

-- the names that are given a value
abbrev pub assigned_in : Statement → List (List ℕ)
assigned_in (Declares kind names) = []
assigned_in (Assigns name value) = name.name ∷ []
assigned_in (Model at choices items) = []
assigned_in (Notes command names) = []

-- the first parameter that is read before it has a value, or else the first declared one that never gets one
abbrev pub unvalued : List Statement → Option (List ℕ)
unvalued file =
    option_or (read_early [] file) (find (is_missing (flat_map assigned_in file)) (names_of kind.Parameter file))

abbrev pub value_fault : ℕ → Option (List ℕ) → Option Fault
value_fault end None = None
value_fault end (Some name) = fault_if true k.NoValue name end

-- a name before these, if there is one
abbrev pub with_name : Option (List ℕ) → List (List ℕ) → List (List ℕ)
with_name None names = names
with_name (Some name) names = name ∷ names

-- the names of equations, in text order
abbrev pub equation_names : List Equation → List (List ℕ)
equation_names [] = []
equation_names (x ∷ xs) = with_name (name_of x) (equation_names xs)

-- the first of these names that stands again further on
abbrev pub first_shared : List (List ℕ) → Option (List ℕ)
first_shared [] = None
first_shared (name ∷ names) = if list_any (bytes_eq name) names then Some name else first_shared names

-- equations of one name are variants, of which one is in force; without constraints none may be
abbrev pub gap_fault : ℕ → Option (List ℕ) → Option Fault
gap_fault end None = None
gap_fault end (Some name) = fault_if true k.RegimeGap name end

-- the first fault of the file as a whole, at the end of the text
abbrev pub whole_fault : ℕ → List Statement → Option Fault
whole_fault end file =
    first_fault (fault_if (not (has_model file)) k.NoModel [] end ∷ fault_if (length (names_of kind.Endogenous file) == 0) k.Empty [] end ∷ gap_fault end (first_shared (equation_names (equations_of file))) ∷ fault_if (not (length (equations_of file) == length (names_of kind.Endogenous file))) k.EquationCount [] end ∷ value_fault end (unvalued file) ∷ [])

-- the file's first fault: of its points, and then of the whole
abbrev pub declared_fault : ℕ → List Statement → Option Fault
declared_fault end file = first_fault (walk_fault file ∷ whole_fault end file ∷ [])
