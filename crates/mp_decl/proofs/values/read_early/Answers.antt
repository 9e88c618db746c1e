use Rattle.std.proofs.Common.{option_map, Some, sym, ap, ◌∙◌}
use Rattle.mp_file.specs.declared.Statement.{Statement}
use Rattle.mp_file.specs.Shown.{expr_of, statement_of}
use Rattle.mp_declared.specs.Points.{Constant, reads}
use Rattle.mp_decl.specs.Values.{early_in}
use Rattle.mp_decl.specs.Search.{name_in}
use Rattle.mp_decl.proofs.ReadWalks.{names_read-find}
use Rattle.mp_decl.proofs.values.read_early.Goals as goal

pub returns-in-Some : goal.returns-in-Some
returns-in-Some c =
    ap Some c.name.ensures
    ∙ ap (option_map name_in) c.in-Some.ensures
    ∙ sym (names_read-find c.args.given.now (reads Constant (expr_of c.in-Assigns.value)))
    ∙ ap (λ (s : Statement). early_in c.args.given.now (statement_of s)) (sym c.in-Assigns.is)

pub returns-in-None : goal.returns-in-None
returns-in-None c =
    ap (option_map name_in) c.in-None.ensures
    ∙ sym (names_read-find c.args.given.now (reads Constant (expr_of c.in-Assigns.value)))
    ∙ ap (λ (s : Statement). early_in c.args.given.now (statement_of s)) (sym c.in-Assigns.is)
