use Rattle.std.proofs.Common.{◌≡◌, ℕ, List, map, ap, ◌∙◌}
use Rattle.mp_graph.specs.Shared.{term_at}
use Rattle.mp_model_data.specs.Shown.{equation_in, sides_of}
use Rattle.mp_derivatives.specs.Derivatives.{residual}
use Rattle.mp_derive.proofs.Derived.{have, all_are}
use Rattle.mp_derive.proofs.derive.derivatives_in.Goals as goal
use Rattle.mp_derive.proofs.derive.derivatives_in.Goals.{After-deref}

-- the nodes that are lent have the residuals
residuals_are : (c : After-deref) → map (term_at c.few_enough.new.graph.terms) c.deref.result.now ≡ map residual (map (equation_in c.args.graph.now.terms) (map sides_of c.args.equations.now))
residuals_are c = ap (λ (rs : List ℕ). map (term_at c.few_enough.new.graph.terms) rs) c.deref.ensures.value ∙ c.in_ok-roots.ensures.terms

pub all_derivatives-requires-clause-has : goal.all_derivatives-requires-clause-has
all_derivatives-requires-clause-has c =
    have (map (equation_in c.args.graph.now.terms) (map sides_of c.args.equations.now)) (map (term_at c.few_enough.new.graph.terms) c.deref.result.now) (residuals_are (goal.at.all_derivatives-requires-clause-has c).After-deref) c.requires.has

pub returns-clause-all : goal.returns-clause-all
returns-clause-all c =
    all_are (map (equation_in c.args.graph.now.terms) (map sides_of c.args.equations.now)) (map (term_at c.few_enough.new.graph.terms) c.deref.result.now) (residuals_are (goal.at.returns-clause-all c).After-deref)
    c.args.graph.now.names c.few_enough.new.graph.names c.in_ok-list.list c.in_ok-roots.ensures.kept.names c.in_ok-list.ensures
