use Rattle.std.proofs.Common.{◌∙◌, ap, arith, pos}
use Rattle.std.specs.Prelude.{slice_index}
use Rattle.mp_walk.specs.Cells.{cell_at}
use Rattle.mp_path.specs.Points.{cells_of}
use Rattle.mp_eval.specs.Roots.{first_fault}
use Rattle.mp_eval.specs.Rows.{value_at}
use Rattle.mp_eval.proofs.Reach.{reached_marked, reached_least, map_same}
use Rattle.mp_eval.proofs.Count.{reached_terms}
use Rattle.mp_eval.proofs.First.{ended_valued, ended_before}
use Rattle.mp_eval.proofs.over.period_over.Goals as goal

pub evaluate-requires-clause-marks : goal.evaluate-requires-clause-marks
evaluate-requires-clause-marks g c =
    reached_marked (cell_at (cells_of c.args.grid.now) (pos c.args.t)) c.args.graph.now.terms c.args.roots.now c.mark.new.marks c.mark.ensures.marks c.requires.given c.requires.small

pub returns-clause-values : goal.returns-clause-values
returns-clause-values g c i l = c.evaluate.ensures.values (slice_index c.args.roots.now i) (c.requires.roots i l) (c.mark.ensures.marks.root i l)

pub returns-clause-fault : goal.returns-clause-fault
returns-clause-fault g c =
    c.first_of.ensures
    ∙ ap (first_fault 1) (map_same _ _ c.args.roots.now (λ i l. c.evaluate.ensures.values (slice_index c.args.roots.now i) (c.requires.roots i l) (c.mark.ensures.marks.root i l)))

pub returns-clause-steps : goal.returns-clause-steps
returns-clause-steps g c others all =
    let least = reached_least c.args.graph.now.terms c.args.roots.now c.mark.new.marks others c.mark.ensures.marks all in
    omega (arith, c.evaluate.ensures.steps, least)

pub returns-clause-valued : goal.returns-clause-valued
returns-clause-valued g c = ended_valued c.first_of.result (value_at c.evaluate.new.values) c.args.roots.now c.first_of.ensures

pub returns-clause-valued_before : goal.returns-clause-valued_before
returns-clause-valued_before g c = ended_before c.first_of.result (value_at c.evaluate.new.values) c.args.roots.now c.first_of.ensures

pub returns-clause-distinct : goal.returns-clause-distinct
returns-clause-distinct g c list all =
    let least = reached_terms c.args.graph.now.terms c.args.roots.now c.mark.new.marks list c.unique.ensures c.mark.ensures.marks all in
    omega (arith, c.evaluate.ensures.steps, least)
