use Rattle.std.proofs.Common.{sym, subst, arith}
use Rattle.std.proofs.lemmas.Grind.{common_steps}
use Rattle.mp_graph.specs.Shared.{term_at}
use Rattle.mp_derivatives.specs.Meant.{MeansTerm}
use Rattle.mp_print_model.proofs.node.print_tree.Goals as goal

pub returns-clause-text : goal.returns-clause-text
returns-clause-text c = grind (arith, common_steps)

pub returns-clause-reads : goal.returns-clause-reads
returns-clause-reads c =
    let ns = c.args.graph.now.names in
    let t = term_at c.args.graph.now.terms c.args.id in
    λ is. subst (λ text. MeansTerm ns text t) (sym (returns-clause-text c)) (c.text_law.ensures ns t is)
