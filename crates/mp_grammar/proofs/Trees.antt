-- Each statement in form has a tree, with its value but for places.
use Rattle.std.proofs.Common.{◌<◌, List, [], ◌∷◌, length, map, Option, Some, None, option_map, refl, ap, arith}
use Rattle.mp_statements.specs.declared.kind.NameKind.{NameKind}
use Rattle.mp_statements.specs.declared.kind.NameKind.TheVariants as kind
use Rattle.mp_statements.specs.declared.kind.Command.{Command}
use Rattle.mp_statements.specs.declared.kind.Command.TheVariants as commands
use Rattle.mp_syntax.specs.Syntax.{Named, Expr}
use Rattle.mp_statements.specs.Statements.{Tag, Choice, Equation, Item, Local, Equates, Statement, Declares, Assigns, Model, Notes}
use Rattle.mp_expressions.specs.Script.{bare_name, bare}
use Rattle.mp_expressions.specs.Productions.{expr}
use Rattle.mp_format.specs.Format.{Format, opt}
use Rattle.mp_format.specs.Notation.{wide, ◌▸◌}
use Rattle.mp_tokens.specs.declared.terminal.Terminal.TheVariants as t
use Rattle.mp_format.specs.Spelling.{value, Fits, FitsAll, FitsOpt}
use Rattle.mp_grammar.specs.Productions.{decl, further_decl, names, declares, assigns, local, equation, item, model, noted, further_name, notes, statement, statements}
use Rattle.mp_grammar.specs.Levels.{expression}
use Rattle.mp_grammar.specs.Tags.{tags, bare_tag, IsTag, tags_tree}
use Rattle.mp_grammar.specs.Options.{choices, bare_choice, IsChoice, choices_tree}
use Rattle.mp_format.proofs.Stands.{Stands, list_stands, ap_two}
use Rattle.mp_grammar.specs.Statements.{bare_equation, bare_item, bare_statement, IsExpression, IsNamed, IsEquation, IsItem, IsStatement, decl_tree, further_tree, names_tree, declares_tree, assigns_tree, local_tree, equation_tree, item_tree, model_tree, command_tree, noted_tree, notes_tree, statement_tree, statements_tree}
use Rattle.mp_grammar.proofs.Forms.{in_form}
use Rattle.mp_grammar.proofs.Lists.{if_any_stands}
use Rattle.mp_grammar.proofs.Tags.{tags_stand}
use Rattle.mp_grammar.proofs.Options.{choices_stand}

decl_stands : (n : Named) → IsNamed n → Stands decl (decl_tree n) (bare_name n)
unfolding value Fits decl decl_tree
decl_stands n is = record { value = refl; fits = ((is, tt), tt) }

further_stands : (n : Named) → IsNamed n → Stands further_decl (further_tree n) (bare_name n)
unfolding value Fits further_decl further_tree
further_stands n is = let h = decl_stands n is in record { value = h.value; fits = (tt, h.fits) }

names_stand : (ns : List Named) → 0 < length ns → FitsAll IsNamed ns → Stands names (names_tree ns) (map bare_name ns)
unfolding value Fits
names_stand [] some is = absurd (omega arith)
names_stand (n ∷ ns) some is =
    let g = decl_stands n is.0 in
    let h = list_stands further_decl further_tree bare_name IsNamed further_stands ns is.1 in
    record { value = ap_two (λ x l. x ∷ l) g.value h.value; fits = (g.fits, h.fits) }

declares_stand : (k : NameKind) (ns : List Named) → 0 < length ns → FitsAll IsNamed ns → Stands declares (declares_tree k ns) (Declares k (map bare_name ns))
unfolding value Fits declares declares_tree
declares_stand kind.Endogenous ns some is =
    let h = names_stand ns some is in record { value = ap (Declares kind.Endogenous) h.value; fits = (tt, (h.fits, tt)) }
declares_stand kind.Exogenous ns some is =
    let h = names_stand ns some is in record { value = ap (Declares kind.Exogenous) h.value; fits = (tt, (h.fits, tt)) }
declares_stand kind.Parameter ns some is =
    let h = names_stand ns some is in record { value = ap (Declares kind.Parameter) h.value; fits = (tt, (h.fits, tt)) }

assigns_stand : (n : Named) (x : Expr) → IsNamed n → IsExpression x → Stands (assigns (expression 500)) (assigns_tree (expression 500) n x) (Assigns (bare_name n) (bare x))
unfolding value Fits assigns assigns_tree
assigns_stand n x is form = record { value = refl; fits = ((is, tt), (in_form 500 x form, tt)) }

local_stands : (n : Named) (x : Expr) → IsNamed n → IsExpression x → Stands (local (expression 500)) (local_tree (expression 500) n x) (Local (bare_name n) (bare x))
unfolding value Fits local local_tree
local_stands n x is form = record { value = refl; fits = ((tt, (is, tt)), (in_form 500 x form, tt)) }

-- what follows the left side
abbrev right_part : Format (Option Expr)
right_part = opt (wide t.Equals ▸ expr (expression 500))

right_stands : (r : Option Expr) → FitsOpt IsExpression r → Stands right_part (option_map (λ r. (tt, r)) r) (option_map bare r)
unfolding value Fits
right_stands None is = record { value = refl; fits = tt }
right_stands (Some r) is = record { value = refl; fits = (tt, in_form 500 r is) }

pub equation_stands : (x : Equation) → IsEquation x → Stands (equation (expression 500)) (equation_tree (expression 500) x) (bare_equation x)
unfolding value Fits equation equation_tree
equation_stands x is =
    let h = if_any_stands tags tags_tree bare_tag IsTag tags_stand x.tags is.0 in
    let g = right_stands x.right is.2 in
    record { value = ap_two (λ (ts : List Tag) (r : Option Expr). record { tags = ts; left = bare x.left; right = r }) h.value g.value; fits = (h.fits, (in_form 500 x.left is.1, (g.fits, tt))) }

pub item_stands : (x : Item) → IsItem x → Stands (item (expression 500)) (item_tree (expression 500) x) (bare_item x)
unfolding value Fits item item_tree
item_stands (Local n x) is = let h = local_stands n x is.0 is.1 in record { value = h.value; fits = h.fits }
item_stands (Equates x) is = let h = equation_stands x is in record { value = ap Equates h.value; fits = h.fits }

model_stands : (cs : List Choice) (xs : List Item) → FitsAll IsChoice cs → FitsAll IsItem xs → Stands (model (expression 500)) (model_tree (expression 500) cs xs) (Model 0 (map bare_choice cs) (map bare_item xs))
unfolding value Fits model model_tree
model_stands cs xs are is =
    let g = if_any_stands choices choices_tree bare_choice IsChoice choices_stand cs are in
    let h = list_stands (item (expression 500)) (item_tree (expression 500)) bare_item IsItem item_stands xs is in
    record { value = ap_two (Model 0) g.value h.value; fits = (tt, ((g.fits, tt), ((h.fits, tt), tt))) }

command_stands : (c : Command) → Stands noted (command_tree c) c
unfolding value Fits noted command_tree
command_stands commands.Check = record { value = refl; fits = tt }
command_stands commands.Resid = record { value = refl; fits = tt }
command_stands commands.Rplot = record { value = refl; fits = tt }
command_stands commands.ModelDiagnostics = record { value = refl; fits = tt }
command_stands commands.OccbinSetup = record { value = refl; fits = tt }
command_stands commands.OccbinSolver = record { value = refl; fits = tt }

noted_stands : (n : Named) → IsNamed n → Stands further_name (noted_tree n) (bare_name n)
unfolding value Fits further_name noted_tree
noted_stands n is = record { value = refl; fits = (tt, is) }

notes_stand : (c : Command) (ns : List Named) → FitsAll IsNamed ns → Stands notes (notes_tree c ns) (Notes c (map bare_name ns))
unfolding value Fits notes notes_tree
notes_stand c ns is =
    let g = command_stands c in
    let h = list_stands further_name noted_tree bare_name IsNamed noted_stands ns is in
    record { value = ap_two Notes g.value h.value; fits = ((g.fits, tt), (h.fits, tt)) }

statement_stands : (s : Statement) → IsStatement s → Stands (statement (expression 500)) (statement_tree (expression 500) s) (bare_statement s)
unfolding value Fits statement statement_tree
statement_stands (Declares k ns) is = let h = declares_stand k ns is.0 is.1 in record { value = h.value; fits = h.fits }
statement_stands (Assigns n x) is = let h = assigns_stand n x is.0 is.1 in record { value = h.value; fits = h.fits }
statement_stands (Model at cs xs) is =
    let h = model_stands cs xs is.0 is.1 in record { value = h.value; fits = h.fits }
statement_stands (Notes c ns) is = let h = notes_stand c ns is in record { value = h.value; fits = h.fits }

pub file_stands : (xs : List Statement) → FitsAll IsStatement xs → Stands (statements (expression 500)) (statements_tree (expression 500) xs) (map bare_statement xs)
unfolding value Fits statements statements_tree
file_stands xs is =
    let h = list_stands (statement (expression 500)) (statement_tree (expression 500)) bare_statement IsStatement statement_stands xs is in
    record { value = h.value; fits = h.fits }
