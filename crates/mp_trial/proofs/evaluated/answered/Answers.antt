use Rattle.std.proofs.Common.{rules, pos, sym, subst}
use Rattle.std.specs.Prelude.{slice_index}
use Rattle.mp_walk.specs.Cells.{cell_at}
use Rattle.mp_path.specs.Points.{Points, cells_of}
use Rattle.mp_graph.specs.Shared.{term_at}
use Rattle.mp_eval.specs.Given.{IsGiven}
use Rattle.mp_trial.proofs.evaluated.answered.Goals as goal

pub evaluated-requires-clause-given : goal.evaluated-requires-clause-given
evaluated-requires-clause-given g c i l =
    subst (λ (p : Points). IsGiven (cell_at (cells_of p) (pos c.args.ready.now.period)) (term_at c.args.graph.now.terms (slice_index c.args.roots.now i)))
    (sym c.grid-grid.ensures) (let h : IsGiven (cell_at (cells_of c.args.ready.now.frame.now) (pos c.args.ready.now.period)) (term_at c.args.graph.now.terms (slice_index c.args.roots.now i)) = search rules in h)
