-- A file as the grammar reads it.
use Rattle.std.specs.Prelude.{ℕ, List, Option}
use Rattle.mp_syntax.specs.declared.operator.Sign.{Sign}
use Rattle.mp_syntax.specs.Syntax.{Named, Expr}
use Rattle.mp_statements.specs.declared.kind.NameKind.{NameKind}
use Rattle.mp_statements.specs.declared.kind.Command.{Command}

-- what an option is given: a number with its sign, a name, or a text with its quotes
pub data Setting : Type 0 where
  Amount : (sign : Option Sign) (literal : List ℕ) → Setting
  Word : (name : List ℕ) → Setting
  Quoted : (text : List ℕ) → Setting

-- an option of a statement, with what it is given
pub record Choice : Type 0 where
  pub name : Named
  pub setting : Option Setting

-- a tag of an equation: its name, its text with the quotes, and the place of the text
pub record Tag : Type 0 where
  pub name : Named
  pub text : List ℕ
  pub at : ℕ

-- an equation with its tags, or one side alone, whose right side is 0
pub record Equation : Type 0 where
  pub tags : List Tag
  pub left : Expr
  pub right : Option Expr

-- what stands in a model block: a local variable with its expression, or an equation
pub data Item : Type 0 where
  Local : (name : Named) (value : Expr) → Item
  Equates : (equation : Equation) → Item

-- a declaration of names of one kind, a parameter that is given a value, a model block with the place of its first word and its options, or a command that is noted with the names that it lists
pub data Statement : Type 0 where
  Declares : (kind : NameKind) (names : List Named) → Statement
  Assigns : (name : Named) (value : Expr) → Statement
  Model : (at : ℕ) (choices : List Choice) (items : List Item) → Statement
  Notes : (command : Command) (names : List Named) → Statement
