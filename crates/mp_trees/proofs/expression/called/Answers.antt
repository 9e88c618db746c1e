use Rattle.std.proofs.Common.{Ok, sym, ap, ◌∙◌}
use Rattle.mp_graph.specs.Shared.{term_at}
use Rattle.mp_semantics.specs.Term.{binary}
use Rattle.mp_trees.proofs.Bound.{next_of_fault, next_of_given}
use Rattle.mp_trees.proofs.expression.called.Goals as goal

pub returns-in-Err-clause-node : goal.returns-in-Err-clause-node
returns-in-Err-clause-node c ks given gives = next_of_fault _ c.args.second given _ c.in-Err.fault c.in-Err.is gives

pub returns-in_ok-intern-in-Ok-clause-node : goal.returns-in_ok-intern-in-Ok-clause-node
returns-in_ok-intern-in-Ok-clause-node c ks given gives =
    let ts = c.args.graph.now.terms in
    next_of_given _ c.args.second given _ c.in-Ok.second c.in-Ok.is gives
    ∙ ap (λ o. Ok (binary o (term_at ts c.args.first) (term_at ts c.in-Ok.second), ks)) (sym c.calling.ensures)
    ∙ ap (λ x. Ok (x, ks)) (sym c.in_ok-intern-in-Ok.ensures.says.term)
