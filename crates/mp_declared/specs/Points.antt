-- What a file says, point by point in text order.
use Rattle.std.specs.Prelude.{ℕ, List, [], ◌∷◌, ◌++◌, map, Option}
use Rattle.std.specs.List.{flat_map}
use Rattle.mp_statements.specs.declared.kind.NameKind.{NameKind}
use Rattle.mp_syntax.specs.Syntax.{Shift, Named, Expr, Number, Variable, Signed, Binary, Power, Paren, Call, Diff, Pick}
use Rattle.mp_statements.specs.Statements.{Choice, Tag, Equation, Item, Local, Equates, Statement, Declares, Assigns, Model, Notes}
use Rattle.mp_statements.specs.Sides.{sides}

-- where a name is read: in an expression of the model, or where only parameters are
pub data Reader : Type 0 where
  InModel : Reader
  Constant : Reader

-- it declares a name, gives a parameter a value, begins a model block or gives it an option; it names a local variable, which is declared further on, after its expression; it reads a name with its shift, or takes a `diff`; it is a tag after these of the same equation, or a name in a noted command
pub data Point : Type 0 where
  Declared : (kind : NameKind) (name : Named) → Point
  Assigned : (name : Named) → Point
  Begins : (at : ℕ) → Point
  Chosen : (choice : Choice) → Point
  Defines : (name : Named) → Point
  Defined : (name : Named) → Point
  Reads : (reader : Reader) (name : Named) (shift : Option Shift) → Point
  Differs : (reader : Reader) (at : ℕ) → Point
  Tagged : (before : List Tag) (tag : Tag) → Point
  Noted : (name : Named) → Point

-- the names that an expression reads and its `diff`, from left to right; an exponent reads parameters alone
unfoldable pub reads : Reader → Expr → List Point
reads r (Number literal at) = []
reads r (Variable name shift) = Reads r name shift ∷ []
reads r (Signed s a) = reads r a
reads r (Binary o a at b) = reads r a ++ reads r b
reads r (Power a at s b) = reads r a ++ reads Constant b
reads r (Paren a) = reads r a
reads r (Call f a b) = reads r a ++ reads r b
reads r (Diff at a) = Differs r at ∷ reads r a
reads r (Pick a b c d) = []

-- tags, each with those before it
abbrev pub tag_points : List Tag → List Tag → List Point
tag_points before [] = []
tag_points before (t ∷ ts) = Tagged before t ∷ tag_points (before ++ t ∷ []) ts

-- an equation's tags come before its sides
abbrev pub equation_points : Equation → List Point
equation_points x = tag_points [] x.tags ++ flat_map (reads InModel) (sides x)

-- a local variable is declared after its expression, so that it does not read itself
abbrev pub item_points : Item → List Point
item_points (Local name value) = Defines name ∷ (reads InModel value ++ Defined name ∷ [])
item_points (Equates equation) = equation_points equation

abbrev pub points_in : Statement → List Point
points_in (Declares kind names) = map (Declared kind) names
points_in (Assigns name value) = Assigned name ∷ reads Constant value
points_in (Model at choices items) = Begins at ∷ (map Chosen choices ++ flat_map item_points items)
points_in (Notes command names) = map Noted names

-- the points of a file, in text order
abbrev pub points_of : List Statement → List Point
points_of file = flat_map points_in file

-- each point, and the points before it
abbrev pub with_earlier : List Point → List (List Point × Point)
with_earlier [] = []
with_earlier (p ∷ ps) = ([], p) ∷ map (λ q. (p ∷ q.0, q.1)) (with_earlier ps)
