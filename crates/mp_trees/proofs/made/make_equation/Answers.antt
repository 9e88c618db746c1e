use Rattle.std.proofs.Common.{◌∷◌, List}
use Rattle.std.proofs.lemmas.Result.{err_from_is_err_and}
use Rattle.mp_statements.specs.Statements.{Item, Equates}
use Rattle.mp_file.specs.Shown.{equation_of}
use Rattle.mp_values.specs.Names.{Names}
use Rattle.mp_values.specs.From.{Taken}
use Rattle.mp_trees.specs.Made.{Equations, IsRest}
use Rattle.mp_trees.proofs.Rest.{equation_differences, equation_fails, equation_done}
use Rattle.mp_trees.proofs.made.make_equation.Goals as goal

pub equation_nodes-requires-clause-shifts : goal.equation_nodes-requires-clause-shifts
equation_nodes-requires-clause-shifts c =
    let q = c.requires in
    equation_differences q.0 q.1 c.args.graph.now c.args.made.now (equation_of c.args.equation.now) q.2 c.args.exponents.now q.3

pub returns-in_err-equation-clause-makes : goal.returns-in_err-equation-clause-makes
returns-in_err-equation-clause-makes c =
    let p = err_from_is_err_and c.from_residual.result c.from_residual.ensures.1 in
    rw (p.1, p.2)
    (λ (ns : Names) (whole : Taken Equations) (more : List Item) (r : IsRest ns whole c.args.graph.now c.args.made.now (Equates (equation_of c.args.equation.now) ∷ more) c.args.exponents.now).
    equation_fails ns whole c.args.graph.now c.args.made.now (equation_of c.args.equation.now) more c.args.exponents.now r c.in_err-equation.field-0.0 c.in_err-equation.ensures.equation)

pub returns-clause-makes : goal.returns-clause-makes
returns-clause-makes c ns whole more r =
    equation_done ns whole c.args.graph.now c.args.made.now (equation_of c.args.equation.now) more c.args.exponents.now r
    c.equation_nodes.new.graph c.equation_nodes.new.images c.push.new.self c.in_ok-equation.equation c.equation_nodes.new.exponents c.in_ok-equation.ensures.kept c.in_ok-equation.ensures.images c.in_ok-equation.ensures.within c.in_ok-equation.ensures.equation c.in-Ok.ensures.items
