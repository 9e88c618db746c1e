use Rattle.std.proofs.Common.{◌≡◌, ℕ, List, map, ap, ◌∙◌, subst, arith}
use Rattle.std.specs.List.{sum_by}
use Rattle.mp_graph.specs.Shared.{term_at}
use Rattle.mp_model_data.specs.Shown.{equation_in, sides_of}
use Rattle.mp_derivatives.specs.Derivatives.{derivatives_from, operations}
use Rattle.mp_derive.specs.Counted.{all_operations}
use Rattle.mp_derive.specs.Gives.{AreMany}
use Rattle.mp_derive.proofs.Derived.{counted}
use Rattle.mp_derive.proofs.few.few_enough.Goals as goal
use Rattle.mp_derive.proofs.few.few_enough.Goals.{After-deref}

-- the derivatives of the nodes that are lent are those of the equations
same_count : (c : After-deref) → sum_by all_operations (map (term_at c.residuals.new.graph.terms) c.deref.result.now) ≡ operations (derivatives_from 1 (map (equation_in c.args.graph.now.terms) (map sides_of c.args.equations.now)))
same_count c =
    counted (map (equation_in c.args.graph.now.terms) (map sides_of c.args.equations.now)) (map (term_at c.residuals.new.graph.terms) c.deref.result.now)
    (ap (λ (rs : List ℕ). map (term_at c.residuals.new.graph.terms) rs) c.deref.ensures.value ∙ c.in_ok-roots.ensures.terms)

pub returns-in-Ok-clause-few : goal.returns-in-Ok-clause-few
returns-in-Ok-clause-few c = omega (arith, same_count (goal.at.returns-in-Ok-clause-few c).After-deref, c.in-Ok.ensures)

pub returns-in-Err-clause-few : goal.returns-in-Err-clause-few
returns-in-Err-clause-few c = subst (AreMany c.in-Err.fault) (same_count (goal.at.returns-in-Err-clause-few c).After-deref) c.in-Err.ensures
