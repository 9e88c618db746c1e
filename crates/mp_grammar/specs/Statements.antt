-- Statements that a text may write, and how each is written as a tree.
use Rattle.std.specs.Prelude.{◌<◌, List, [], ◌∷◌, length, map, None, option_map}
use mathlib.Core.Logic.{inl, inr}
use Rattle.mp_statements.specs.declared.kind.NameKind.{NameKind}
use Rattle.mp_statements.specs.declared.kind.NameKind.TheVariants as kind
use Rattle.mp_statements.specs.declared.kind.Command.{Command}
use Rattle.mp_statements.specs.declared.kind.Command.TheVariants as commands
use Rattle.mp_syntax.specs.Syntax.{Named, Expr}
use Rattle.mp_statements.specs.Statements.{Choice, Equation, Item, Local, Equates, Statement, Declares, Assigns, Model, Notes}
use Rattle.mp_format.specs.Pieces.{IsName}
use Rattle.mp_expressions.specs.Script.{bare_name, bare}
use Rattle.mp_format.specs.Spelling.{Tree, FitsAll, FitsOpt}
use Rattle.mp_expressions.specs.InForm.{InForm}
use Rattle.mp_expressions.specs.Productions.{Whole}
use Rattle.mp_grammar.specs.Lists.{if_any_tree}
use Rattle.mp_grammar.specs.Tags.{bare_tag, IsTag, tags_tree}
use Rattle.mp_grammar.specs.Options.{bare_choice, IsChoice, choices_tree}
use Rattle.mp_grammar.specs.Productions.{decl, further_decl, names, declares, assigns, local, equation, item, model, noted, further_name, notes, statement, statements}

-- an equation without places
abbrev pub bare_equation : Equation → Equation
bare_equation x = record { tags = map bare_tag x.tags; left = bare x.left; right = option_map bare x.right }

-- an item without places
abbrev pub bare_item : Item → Item
bare_item (Local name value) = Local (bare_name name) (bare value)
bare_item (Equates equation) = Equates (bare_equation equation)

-- a statement without places
abbrev pub bare_statement : Statement → Statement
bare_statement (Declares kind names) = Declares kind (map bare_name names)
bare_statement (Assigns name value) = Assigns (bare_name name) (bare value)
bare_statement (Model at choices items) = Model 0 (map bare_choice choices) (map bare_item items)
bare_statement (Notes command names) = Notes command (map bare_name names)

-- a file without places
abbrev pub bare_file : List Statement → List Statement
bare_file file = map bare_statement file

-- at most 500 "(" are open at once
abbrev pub IsExpression : Expr → Type 0
IsExpression e = InForm 500 e

abbrev pub IsNamed : Named → Type 0
IsNamed n = IsName n.name

abbrev pub IsEquation : Equation → Type 0
IsEquation x = FitsAll IsTag x.tags × IsExpression x.left × FitsOpt IsExpression x.right

abbrev pub IsItem : Item → Type 0
IsItem (Local name value) = IsNamed name × IsExpression value
IsItem (Equates equation) = IsEquation equation

-- a declaration names something
abbrev pub IsStatement : Statement → Type 0
IsStatement (Declares kind names) = (0 < length names) × FitsAll IsNamed names
IsStatement (Assigns name value) = IsNamed name × IsExpression value
IsStatement (Model at choices items) = FitsAll IsChoice choices × FitsAll IsItem items
IsStatement (Notes command names) = FitsAll IsNamed names

-- what a text may write, each name a name and each literal a number
abbrev pub IsFile : List Statement → Type 0
IsFile file = FitsAll IsStatement file

-- the trees; no names are none
unfoldable pub decl_tree : Named → Tree decl
unfolding decl
decl_tree n = ((n.name, None), None)

unfoldable pub no_decl : Tree decl
unfolding decl
no_decl = (([], None), None)

unfoldable pub further_tree : Named → Tree further_decl
unfolding further_decl
further_tree n = (None, decl_tree n)

abbrev pub names_tree : List Named → Tree names
names_tree [] = (no_decl, [])
names_tree (n ∷ ns) = (decl_tree n, map further_tree ns)

unfoldable pub declares_tree : NameKind → List Named → Tree declares
unfolding declares
declares_tree kind.Endogenous ns = inl (tt, (names_tree ns, tt))
declares_tree kind.Exogenous ns = inr (inl (tt, (names_tree ns, tt)))
declares_tree kind.Parameter ns = inr (inr (tt, (names_tree ns, tt)))

unfoldable pub assigns_tree : (e : Whole) → Named → Expr → Tree (assigns e)
unfolding assigns
assigns_tree e n x = ((n.name, tt), (x, tt))

unfoldable pub local_tree : (e : Whole) → Named → Expr → Tree (local e)
unfolding local
local_tree e n x = ((tt, (n.name, tt)), (x, tt))

unfoldable pub equation_tree : (e : Whole) → Equation → Tree (equation e)
unfolding equation
equation_tree e x = (if_any_tree tags_tree x.tags, (x.left, (option_map (λ r. (tt, r)) x.right, tt)))

unfoldable pub item_tree : (e : Whole) → Item → Tree (item e)
unfolding item
item_tree e (Local name value) = inl (local_tree e name value)
item_tree e (Equates equation) = inr (equation_tree e equation)

unfoldable pub model_tree : (e : Whole) → List Choice → List Item → Tree (model e)
unfolding model
model_tree e cs xs = (tt, ((if_any_tree choices_tree cs, tt), ((map (item_tree e) xs, tt), tt)))

unfoldable pub command_tree : Command → Tree noted
unfolding noted
command_tree commands.Check = inl tt
command_tree commands.Resid = inr (inl tt)
command_tree commands.Rplot = inr (inr (inl tt))
command_tree commands.ModelDiagnostics = inr (inr (inr (inl tt)))
command_tree commands.OccbinSetup = inr (inr (inr (inr (inl tt))))
command_tree commands.OccbinSolver = inr (inr (inr (inr (inr tt))))

unfoldable pub noted_tree : Named → Tree further_name
unfolding further_name
noted_tree n = (None, n.name)

unfoldable pub notes_tree : Command → List Named → Tree notes
unfolding notes
notes_tree c ns = ((command_tree c, None), (map noted_tree ns, tt))

unfoldable pub statement_tree : (e : Whole) → Statement → Tree (statement e)
unfolding statement
statement_tree e (Declares kind names) = inl (declares_tree kind names)
statement_tree e (Assigns name value) = inr (inl (assigns_tree e name value))
statement_tree e (Model at choices items) = inr (inr (inl (model_tree e choices items)))
statement_tree e (Notes command names) = inr (inr (inr (notes_tree command names)))

unfoldable pub statements_tree : (e : Whole) → List Statement → Tree (statements e)
unfolding statements
statements_tree e file = map (statement_tree e) file
