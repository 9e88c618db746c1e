use Rattle.std.proofs.Common.{option_map, sym, ◌∙◌}
use Rattle.std.proofs.lemmas.Result.{err_from_is_err_and}
use Rattle.mp_statements.specs.Sides.{right_side}
use Rattle.mp_file.specs.Shown.{expr_of, equation_of}
use Rattle.mp_graph.specs.Shared.{term_at}
use Rattle.mp_values.specs.From.{right_from}
use Rattle.mp_trees.specs.Locals.{locals_in}
use Rattle.mp_trees.proofs.Alike.{differences_kept, right_kept, equation_taken}
use Rattle.mp_trees.proofs.Bound.{Fails-bind, Fails_same}
use Rattle.mp_trees.proofs.equation.equation_nodes.Goals as goal

pub right_node-requires-clause-shifts : goal.right_node-requires-clause-shifts
right_node-requires-clause-shifts c =
    differences_kept c.args.graph.now c.node_of.new.graph c.args.locals.now c.in_ok-left.ensures.kept c.requires.locals (right_side (option_map expr_of c.args.equation.now.right)) c.requires.shifts.1

pub returns-in_err-right-clause-equation : goal.returns-in_err-right-clause-equation
returns-in_err-right-clause-equation c =
    let p = err_from_is_err_and c.from_residual-in_err-right.result c.from_residual-in_err-right.ensures.1 in
    let ls = locals_in c.args.graph.now.terms c.args.locals.now in
    let right = option_map expr_of c.args.equation.now.right in
    let js = c.node_of.new.exponents in
    let e = c.in_err-right.field-0.0 in
    rw (p.1, p.2, c.in_ok-left.ensures.node)
    (Fails-bind e (right_from c.args.graph.now.names ls right js) _ (Fails_same e _ _ (right_kept c.args.graph.now c.node_of.new.graph c.args.locals.now c.in_ok-left.ensures.kept c.requires.locals right js) c.in_err-right.ensures.node))

pub returns-clause-equation : goal.returns-clause-equation
returns-clause-equation c =
    let ls = locals_in c.args.graph.now.terms c.args.locals.now in
    let right = option_map expr_of c.args.equation.now.right in
    let js = c.node_of.new.exponents in
    equation_taken c.args.graph.now.names ls (equation_of c.args.equation.now) c.args.exponents.now js c.right_node.new.exponents
    (term_at c.node_of.new.graph.terms c.in_ok-left.left) (term_at c.right_node.new.graph.terms c.in_ok-left.left) (term_at c.right_node.new.graph.terms c.in_ok-right.right) _
    c.in_ok-left.ensures.node
    (sym (right_kept c.args.graph.now c.node_of.new.graph c.args.locals.now c.in_ok-left.ensures.kept c.requires.locals right js) ∙ c.in_ok-right.ensures.node)
    (c.in_ok-right.ensures.kept.each c.in_ok-left.left c.in_ok-left.ensures.within)
    c.name_of.ensures
