use Rattle.std.proofs.Common.{sym, subst, arith}
use Rattle.std.proofs.lemmas.Grind.{common_steps}
use Rattle.mp_model_data.specs.Shown.{model_data}
use Rattle.mp_canonical.specs.Means.{MeansModel}
use Rattle.mp_print_model.proofs.Whole.{held_lines}
use Rattle.mp_print_model.proofs.model.print_model.Goals as goal

pub returns-clause-text : goal.returns-clause-text
returns-clause-text c = rw (held_lines c.args.model.now c.graph-graph.ensures.named) (grind (arith, common_steps))

pub returns-clause-reads : goal.returns-clause-reads
returns-clause-reads c =
    let M = model_data c.args.model.now in
    λ is. subst (λ text. MeansModel text M) (sym (returns-clause-text c)) (c.canonical_law.ensures 500 M is (omega arith))
