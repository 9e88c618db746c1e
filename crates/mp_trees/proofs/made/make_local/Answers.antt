use Rattle.std.proofs.Common.{◌∷◌, List}
use Rattle.std.proofs.lemmas.Result.{err_from_is_err_and}
use Rattle.mp_statements.specs.Statements.{Item, Local}
use Rattle.mp_file.specs.Shown.{named_of, expr_of}
use Rattle.mp_values.specs.Names.{Names}
use Rattle.mp_values.specs.From.{Taken}
use Rattle.mp_trees.specs.Made.{Equations, IsRest}
use Rattle.mp_trees.proofs.Rest.{local_differences, local_fails, local_done}
use Rattle.mp_trees.proofs.made.make_local.Goals as goal

pub node_of-requires-clause-shifts : goal.node_of-requires-clause-shifts
node_of-requires-clause-shifts c =
    let q = c.requires in
    local_differences q.0 q.1 c.args.graph.now c.args.made.now (named_of c.args.name.now) (expr_of c.args.value.now) q.2 c.args.exponents.now q.3

pub returns-in_err-node-clause-makes : goal.returns-in_err-node-clause-makes
returns-in_err-node-clause-makes c =
    let p = err_from_is_err_and c.from_residual.result c.from_residual.ensures.1 in
    rw (p.1, p.2)
    (λ (ns : Names) (whole : Taken Equations) (more : List Item) (r : IsRest ns whole c.args.graph.now c.args.made.now (Local (named_of c.args.name.now) (expr_of c.args.value.now) ∷ more) c.args.exponents.now).
    local_fails ns whole c.args.graph.now c.args.made.now (named_of c.args.name.now) (expr_of c.args.value.now) more c.args.exponents.now r c.in_err-node.field-0.0 c.in_err-node.ensures.node)

pub returns-clause-makes : goal.returns-clause-makes
returns-clause-makes c ns whole more r =
    local_done ns whole c.args.graph.now c.args.made.now (named_of c.args.name.now) (expr_of c.args.value.now) more c.args.exponents.now r
    c.node_of.new.graph c.node_of.new.images c.add.new.self c.in_ok-node.node c.node_of.new.exponents c.in_ok-node.ensures.kept c.in_ok-node.ensures.images c.in_ok-node.ensures.within c.in_ok-node.ensures.node c.in_ok-add.ensures
