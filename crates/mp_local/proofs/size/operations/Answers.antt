use Rattle.std.proofs.Common.{◌≡◌, ◌^◌, ℕ, map, min, ap, ◌∙◌}
use Rattle.std.specs.Prelude.{sum}
use Rattle.mp_semantics.specs.Term.{Term}
use Rattle.mp_expr.specs.Size.{count_of}
use Rattle.mp_model_data.specs.Shown.{equation_in}
use Rattle.mp_local.specs.Sizes.{sides_of, side_rows}
use Rattle.mp_local.proofs.SizeLaws.{rows_told, stopped_rows, stopped_sum}
use Rattle.mp_local.proofs.size.operations.Goals as goal

pub sum_of_rows-requires-clause-stopped : goal.sum_of_rows-requires-clause-stopped
sum_of_rows-requires-clause-stopped c =
    stopped_rows count_of (10 ^ 37) c.graph.result.now.terms c.deref.result.now (c.deref.ensures.value ∙ c.in_ok-counts.ensures)

pub returns : goal.returns
returns c =
    let held = c.args.model.now in
    let stopped : Term → ℕ = λ t. min (count_of t) (10 ^ 37) in
    let rows : c.deref.result.now ≡ map stopped held.graph.terms = c.deref.ensures.value ∙ c.in_ok-counts.ensures ∙ ap (λ g. map stopped g.terms) c.graph.ensures.graph in
    c.sum_of_rows.ensures
    ∙ ap (λ xs. min (sum (side_rows c.deref.result.now xs)) (10 ^ 37)) c.equations.ensures.equations
    ∙ ap (λ l. min (sum l) (10 ^ 37)) (rows_told stopped held.graph c.deref.result.now held.equations rows c.equations.ensures.within)
    ∙ stopped_sum count_of (10 ^ 37) (sides_of (map (equation_in held.graph.terms) held.equations))
