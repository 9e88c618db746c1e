use Rattle.std.proofs.Common.{ℕ, ◌<◌, ◌^◌, pos, length}
use Rattle.std.specs.Prelude.{slice_index}
use Rattle.mp_walk.specs.Cells.{cell_at}
use Rattle.mp_walk.specs.Walk.{size}
use Rattle.mp_path.specs.Points.{cells_of}
use Rattle.mp_graph.specs.Shared.{term_at}
use Rattle.mp_eval.specs.Given.{IsGiven}
use Rattle.mp_trial.proofs.evaluated.are_ready.Given as goal

abbrev pub invariant-roots : goal.invariant-roots
invariant-roots l = record {
  within : (j : ℕ) → j < l.root-index → slice_index l.roots j < length l.graph.terms;
  given : (j : ℕ) → j < l.root-index → IsGiven (cell_at (cells_of l.ready.frame.now) (pos l.ready.period)) (term_at l.graph.terms (slice_index l.roots j));
  small : (j : ℕ) → j < l.root-index → size (term_at l.graph.terms (slice_index l.roots j)) < 2 ^ 32;
}
