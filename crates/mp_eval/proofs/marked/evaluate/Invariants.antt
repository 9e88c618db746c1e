use Rattle.std.proofs.Common.{◌≡◌, ℕ, pos, ◌+◌, ◌<◌, ◌≤◌, length}
use Rattle.std.specs.Prelude.{IsTrue}
use Rattle.mp_walk.specs.Cells.{cell_at}
use Rattle.mp_path.specs.Points.{cells_of}
use Rattle.mp_eval.specs.Given.{is_marked, marked_of}
use Rattle.mp_eval.proofs.Ready.{Done}
use Rattle.mp_eval.proofs.marked.evaluate.Given as goal

abbrev pub invariant-loop-id : goal.invariant-loop-id
invariant-loop-id g l = record {
  done : (k : ℕ) → k < l.id → IsTrue (is_marked l.marks k) → Done g.K.Kind.arithmetic (cell_at (cells_of l.grid) (pos l.t)) l.graph.terms l.sizes l.values k;
  sizes_room : length l.sizes ≡ length l.fn.sizes;
  values_room : length l.values ≡ length l.fn.values;
  steps : l.steps ≤ l.fn.steps + marked_of l.marks l.id;
}
