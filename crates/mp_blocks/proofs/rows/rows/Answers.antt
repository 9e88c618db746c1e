use Rattle.std.proofs.Common.{◌<◌, length, subst, sym}
use Rattle.mp_graph.specs.Shared.{Shared}
use Rattle.mp_model_data.specs.Shown.{equation_in, sides_of}
use Rattle.mp_blocks.specs.Rows.{IsRow}
use Rattle.mp_blocks.proofs.Occurring.{rows_step, rows_all, sides_within}
use Rattle.mp_blocks.proofs.rows.rows.Goals as goal

pub row-requires-clause-left : goal.row-requires-clause-left
row-requires-clause-left c =
    let h = c.args.model.now in
    let xs = c.source_equations-equations.result.now in
    let x = c.index-equations-i.result in
    let w = sides_within h.graph xs h.source c.equations.i x c.source_equations-equations.ensures.within c.source_equations-equations.ensures.equations c.equations-test.true c.index-equations-i.is in
    subst (λ (g : Shared). x.left < length g.terms) (sym c.graph.ensures.graph) w.left

pub row-requires-clause-right : goal.row-requires-clause-right
row-requires-clause-right c =
    let h = c.args.model.now in
    let xs = c.source_equations-equations.result.now in
    let x = c.index-equations-i.result in
    let w = sides_within h.graph xs h.source c.equations.i x c.source_equations-equations.ensures.within c.source_equations-equations.ensures.equations c.equations-test.true c.index-equations-i.is in
    subst (λ (g : Shared). x.right < length g.terms) (sym c.graph.ensures.graph) w.right

pub equations-preserved : goal.equations-preserved
equations-preserved c =
    let h = c.args.model.now in
    let n = c.source_variables-variables.result in
    let x = c.index-equations-i.result in
    let r = c.in_ok-row.field-0 in
    rw c.in_ok-push.ensures.items
    (rows_step n h.graph.terms c.source_equations-equations.result.now c.equations.i x r c.equations.rows.items c.equations.invariant c.equations-test.true c.index-equations-i.is
    (subst (λ (g : Shared). IsRow n (equation_in g.terms (sides_of x)) r) c.graph.ensures.graph c.in_ok-row.ensures))

pub returns : goal.returns
returns c =
    rows_all c.args.model.now c.source_variables-variables.result c.source_equations-equations.result.now c.equations.i c.equations.rows.items c.equations.invariant c.equations-test.false
    c.source_equations-equations.ensures.equations c.source_variables-variables.ensures.count c.source_variables-variables.ensures.few
