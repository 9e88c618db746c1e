-- The texts of expressions and of the lines of a file, part by part.
use Rattle.std.specs.Prelude.{ℕ, List, [], ◌∷◌, ◌++◌, Option, Some, None, codes}
use Rattle.std.specs.List.{flat_map}
use Rattle.mp_syntax.specs.declared.operator.Sign.{Sign}
use Rattle.mp_syntax.specs.declared.operator.Sign.TheVariants as sign
use Rattle.mp_syntax.specs.declared.operator.Operator.{Operator}
use Rattle.mp_syntax.specs.declared.operator.Operator.TheVariants as o
use Rattle.mp_syntax.specs.declared.operator.Function.{Function}
use Rattle.mp_syntax.specs.declared.operator.Function.TheVariants as f
use Rattle.mp_syntax.specs.Syntax.{Shift, Expr, Number, Variable, Signed, Binary, Power, Paren, Call, Diff, Pick}
use Rattle.mp_statements.specs.declared.kind.NameKind.{NameKind}
use Rattle.mp_statements.specs.declared.kind.NameKind.TheVariants as kind
use Rattle.mp_statements.specs.declared.kind.Command.{Command}
use Rattle.mp_statements.specs.declared.kind.Command.TheVariants as command
use Rattle.mp_statements.specs.Statements.{Setting, Amount, Word, Quoted, Choice, Tag, Item, Statement}
use Rattle.mp_format.specs.Spelling.{text}
use Rattle.mp_grammar.specs.Productions.{item, statement}
use Rattle.mp_grammar.specs.Statements.{item_tree, statement_tree}
use Rattle.mp_grammar.specs.Levels.{expression}

abbrev pub sign_text : Sign → List ℕ
sign_text sign.Plus = 43 ∷ []
sign_text sign.Minus = 45 ∷ []

abbrev pub signs_text : Option Sign → List ℕ
signs_text None = []
signs_text (Some s) = sign_text s

-- "(+k)" or "(-k)"
abbrev pub shift_text : Option Shift → List ℕ
shift_text None = []
shift_text (Some s) = 40 ∷ (sign_text s.sign ++ (s.digits ++ 41 ∷ []))

abbrev pub operator_text : Operator → List ℕ
operator_text o.Plus = 43 ∷ []
operator_text o.Minus = 45 ∷ []
operator_text o.Times = 42 ∷ []
operator_text o.Over = 47 ∷ []

abbrev pub function_text : Function → List ℕ
function_text f.Min = codes "min"
function_text f.Max = codes "max"

-- an expression, without blanks; it is what its pieces are
unfoldable pub spelled : Expr → List ℕ
spelled (Number literal at) = literal
spelled (Variable name shift) = name.name ++ shift_text shift
spelled (Signed s a) = sign_text s ++ spelled a
spelled (Binary op a at b) = spelled a ++ (operator_text op ++ spelled b)
spelled (Power a at s b) = spelled a ++ (94 ∷ (signs_text s ++ spelled b))
spelled (Paren a) = 40 ∷ (spelled a ++ 41 ∷ [])
spelled (Call f a b) = function_text f ++ (40 ∷ (spelled a ++ (44 ∷ (spelled b ++ 41 ∷ []))))
spelled (Diff at a) = codes "diff" ++ (40 ∷ (spelled a ++ 41 ∷ []))
spelled (Pick a b c d) =
    codes "pick" ++ (40 ∷ (spelled a ++ (44 ∷ (spelled b ++ (44 ∷ (spelled c ++ (44 ∷ (spelled d ++ 41 ∷ []))))))))

-- the line of an item
abbrev pub item_text : Item → List ℕ
item_text x = text (item (expression 500)) (item_tree (expression 500) x)

-- the lines of a statement
abbrev pub statement_text : Statement → List ℕ
statement_text s = text (statement (expression 500)) (statement_tree (expression 500) s)

-- the word that begins a declaration
abbrev pub kind_word : NameKind → List ℕ
kind_word kind.Endogenous = codes "var"
kind_word kind.Exogenous = codes "varexo"
kind_word kind.Parameter = codes "parameters"

-- the word of a command
abbrev pub command_word : Command → List ℕ
command_word command.Check = codes "check"
command_word command.Resid = codes "resid"
command_word command.Rplot = codes "rplot"
command_word command.ModelDiagnostics = codes "model_diagnostics"
command_word command.OccbinSetup = codes "occbin_setup"
command_word command.OccbinSolver = codes "occbin_solver"

-- these texts, with commas between them
abbrev pub with_commas : {X : Type 0} → (X → List ℕ) → List X → List ℕ
with_commas f [] = []
with_commas f (x ∷ xs) = f x ++ flat_map (λ y. 44 ∷ f y) xs

abbrev pub tag_text : Tag → List ℕ
tag_text t = t.name.name ++ (61 ∷ t.text)

-- tags in brackets, with a blank after them
abbrev pub tags_text : List Tag → List ℕ
tags_text [] = []
tags_text (t ∷ ts) = 91 ∷ (with_commas tag_text (t ∷ ts) ++ codes "] ")

abbrev pub setting_text : Setting → List ℕ
setting_text (Amount sign literal) = signs_text sign ++ literal
setting_text (Word name) = name
setting_text (Quoted text) = text

-- what an option is given, if anything
abbrev pub given_text : Option Setting → List ℕ
given_text None = []
given_text (Some s) = 61 ∷ setting_text s

abbrev pub choice_text : Choice → List ℕ
choice_text c = c.name.name ++ given_text c.setting

-- options in parentheses
abbrev pub choices_text : List Choice → List ℕ
choices_text [] = []
choices_text (c ∷ cs) = 40 ∷ (with_commas choice_text (c ∷ cs) ++ 41 ∷ [])

-- a name after a blank
abbrev pub name_text : List ℕ → List ℕ
name_text name = 32 ∷ name

abbrev pub right_text : Option Expr → List ℕ
right_text None = []
right_text (Some e) = codes " = " ++ spelled e

-- the lines of these statements
abbrev pub lines_of : List Statement → List ℕ
lines_of file = flat_map statement_text file
