use Rattle.std.proofs.Common.{◌≡◌, map, ap, ◌∙◌}
use Rattle.mp_expr.specs.Size.{height_of}
use Rattle.mp_local.specs.Sizes.{greatest, side_rows}
use Rattle.mp_local.proofs.SizeLaws.{rows_told}
use Rattle.mp_local.proofs.size.greatest_height.Goals as goal

pub returns : goal.returns
returns c =
    let held = c.args.model.now in
    let rows : c.deref.result.now ≡ map height_of held.graph.terms = c.deref.ensures.value ∙ c.in_ok-heights.ensures ∙ ap (λ g. map height_of g.terms) c.graph.ensures.graph in
    c.greatest_row.ensures
    ∙ ap (λ xs. greatest (side_rows c.deref.result.now xs)) c.equations.ensures.equations
    ∙ ap greatest (rows_told height_of held.graph c.deref.result.now held.equations rows c.equations.ensures.within)
