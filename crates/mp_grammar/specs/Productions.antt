-- Statements as formats.
use Rattle.std.specs.Prelude.{List, ◌∷◌}
use Rattle.mp_tokens.specs.declared.terminal.Terminal.TheVariants as t
use Rattle.mp_syntax.specs.Syntax.{Named}
use Rattle.mp_statements.specs.declared.kind.NameKind.{NameKind}
use Rattle.mp_statements.specs.declared.kind.NameKind.TheVariants as kind
use Rattle.mp_statements.specs.declared.kind.Command.{Command}
use Rattle.mp_statements.specs.declared.kind.Command.TheVariants as commands
use Rattle.mp_statements.specs.Statements.{Equation, Item, Local, Equates, Statement, Declares, Assigns, Model, Notes}
use Rattle.mp_format.specs.Format.{Format, opt, many}
use Rattle.mp_format.specs.Notation.{of, wide, line, ◌⊗◌, ◌▸◌, ◌◂◌, ◌∣◌, ◌⇒◌, ◌stands◌}
use Rattle.mp_expressions.specs.Productions.{Whole, expr, name, spaced_name}
use Rattle.mp_grammar.specs.Lists.{if_any}
use Rattle.mp_grammar.specs.Tags.{tags, texts}
use Rattle.mp_grammar.specs.Options.{choices}

-- decl = NAME [TEX] [texts], of which the name alone is kept
unfoldable pub decl : Format Named
decl = spaced_name ◂ opt (of t.Tex) ◂ if_any texts

-- [","] decl
unfoldable pub further_decl : Format Named
further_decl = opt (of t.Comma) ▸ decl

-- decl {[","] decl}
abbrev pub names : Format (List Named)
names = decl ⊗ many further_decl ⇒ λ p. p.0 ∷ p.1

-- decl {[","] decl} ";"
abbrev pub declared : NameKind → Format Statement
declared k = names ◂ line t.Semicolon ⇒ Declares k

-- ("var" | "varexo" | "parameters") decl {[","] decl} ";"
unfoldable pub declares : Format Statement
declares = of t.Var ▸ declared kind.Endogenous ∣ of t.Varexo ▸ declared kind.Exogenous ∣ of t.Parameters ▸ declared kind.Parameter

-- NAME "=" expr ";"
unfoldable pub assigns : Whole → Format Statement
assigns e = name ◂ wide t.Equals ⊗ expr e ◂ line t.Semicolon ⇒ λ p. Assigns p.0 p.1

-- "#" NAME "=" expr ";"
unfoldable pub local : Whole → Format Item
local e = of t.Hash ▸ spaced_name ◂ wide t.Equals ⊗ expr e ◂ line t.Semicolon ⇒ λ p. Local p.0 p.1

-- expr ["=" expr] ";", after these tags
unfoldable pub equation : Whole → Format Equation
equation e =
    if_any tags ⊗ expr e ⊗ opt (wide t.Equals ▸ expr e) ◂ line t.Semicolon ⇒ λ p. record { tags = p.0; left = p.1.0; right = p.1.1 }

-- item = "#" NAME "=" expr ";" | [tags] expr ["=" expr] ";"
unfoldable pub item : Whole → Format Item
item e = local e ∣ (equation e ⇒ Equates)

-- "model" [options] ";" {item} "end" ";"
unfoldable pub model : Whole → Format Statement
model e =
    of t.Model ⊗ if_any choices ◂ line t.Semicolon ⊗ many (item e) ◂ of t.End ◂ line t.Semicolon ⇒ λ p. Model p.0.at p.1.0 p.1.1

-- noted = "check" | "resid" | "rplot" | "model_diagnostics" | "occbin_setup" | "occbin_solver"
unfoldable pub noted : Format Command
noted =
    t.Check stands commands.Check ∣ t.Resid stands commands.Resid ∣ t.Rplot stands commands.Rplot ∣ t.ModelDiagnostics stands commands.ModelDiagnostics ∣ t.OccbinSetup stands commands.OccbinSetup ∣ t.OccbinSolver stands commands.OccbinSolver

-- [","] NAME
unfoldable pub further_name : Format Named
further_name = opt (of t.Comma) ▸ spaced_name

-- noted [options] {[","] NAME} ";", of which the options are not kept
unfoldable pub notes : Format Statement
notes = noted ◂ if_any choices ⊗ many further_name ◂ line t.Semicolon ⇒ λ p. Notes p.0 p.1

-- statement = declares | assigns | model | notes
unfoldable pub statement : Whole → Format Statement
statement e = declares ∣ assigns e ∣ model e ∣ notes

-- file = {statement}
unfoldable pub statements : Whole → Format (List Statement)
statements e = many (statement e)
