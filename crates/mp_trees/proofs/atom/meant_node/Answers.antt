use Rattle.std.proofs.Common.{◌∙◌, ap, sym, ℤ, option_map, w16}
use Rattle.std.proofs.lemmas.Int.{to_z-of_z}
use Rattle.mp_graph.specs.Shared.{term_at}
use Rattle.mp_values.specs.Limits.{known}
use Rattle.mp_values.specs.Names.{named_term}
use Rattle.mp_trees.specs.Locals.{locals_in}
use Rattle.mp_trees.proofs.Bound.{Gives_same}
use Rattle.mp_trees.proofs.Found.{local_shown, local_known, named_known}
use Rattle.mp_trees.proofs.atom.meant_node.Goals as goal

pub returns-in-Some-clause-node : goal.returns-in-Some-clause-node
returns-in-Some-clause-node c =
    let ts = c.args.graph.now.terms in
    local_known c.args.graph.now.names (locals_in ts c.args.locals.now) c.args.name.now c.args.shift (term_at ts c.in-Some.node)
    (local_shown ts c.args.locals.now c.args.name.now ∙ ap (option_map (term_at ts)) (sym c.in-Some.ensures))

pub returns-in-None-clause-node : goal.returns-in-None-clause-node
returns-in-None-clause-node c =
    let ts = c.args.graph.now.terms in
    Gives_same (term_at c.declared_node.new.graph.terms) c.declared_node.result _ _
    (ap (λ (k : ℤ). known c.args.name.now (named_term c.args.graph.now.names c.args.name.now k)) (to_z-of_z w16 c.args.shift c.ranges.shift)
    ∙ sym (named_known c.args.graph.now.names (locals_in ts c.args.locals.now) c.args.name.now c.args.shift
    (local_shown ts c.args.locals.now c.args.name.now ∙ ap (option_map (term_at ts)) (sym c.in-None.ensures))))
    c.declared_node.ensures.node
