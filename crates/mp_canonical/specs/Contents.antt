-- What a file holds, as one record of lists.
use Rattle.std.specs.Prelude.{ℕ, List, [], ◌∷◌, ◌++◌, map}
use Rattle.mp_syntax.specs.Syntax.{Named, Expr}
use Rattle.mp_statements.specs.declared.kind.NameKind.{NameKind}
use Rattle.mp_statements.specs.declared.kind.NameKind.TheVariants as kind
use Rattle.mp_statements.specs.Statements.{Item, Statement, Declares, Assigns, Model, Notes}

-- the declared names by kind, the names that are given values with their expressions, and the items of the model, each in text order
pub record Contents : Type 0 where
  pub endogenous : List (List ℕ)
  pub exogenous : List (List ℕ)
  pub parameters : List (List ℕ)
  pub assignments : List (List ℕ × Expr)
  pub items : List Item

abbrev pub nothing : Contents
nothing = record { endogenous = []; exogenous = []; parameters = []; assignments = []; items = [] }

-- what two files hold together
abbrev pub joined : Contents → Contents → Contents
joined x y = record {
  endogenous = x.endogenous ++ y.endogenous;
  exogenous = x.exogenous ++ y.exogenous;
  parameters = x.parameters ++ y.parameters;
  assignments = x.assignments ++ y.assignments;
  items = x.items ++ y.items;
}

abbrev pub declared_names : NameKind → List (List ℕ) → Contents
declared_names kind.Endogenous names = record { endogenous = names; exogenous = []; parameters = []; assignments = []; items = [] }
declared_names kind.Exogenous names = record { endogenous = []; exogenous = names; parameters = []; assignments = []; items = [] }
declared_names kind.Parameter names = record { endogenous = []; exogenous = []; parameters = names; assignments = []; items = [] }

abbrev pub contents_in : Statement → Contents
contents_in (Declares kind names) = declared_names kind (map (λ (n : Named). n.name) names)
contents_in (Assigns name value) = record { endogenous = []; exogenous = []; parameters = []; assignments = (name.name, value) ∷ []; items = [] }
contents_in (Model at choices items) = record { endogenous = []; exogenous = []; parameters = []; assignments = []; items = items }
contents_in (Notes command names) = nothing

-- what a file holds
abbrev pub contents_of : List Statement → Contents
contents_of [] = nothing
contents_of (s ∷ more) = joined (contents_in s) (contents_of more)
