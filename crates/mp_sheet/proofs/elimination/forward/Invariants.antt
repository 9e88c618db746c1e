use Rattle.std.proofs.Common.{◌≡◌, ◌+◌, ◌-◌, ◌*◌, ◌/◌, ◌≤◌}
use Rattle.mp_turns.specs.Turns.{each}
use Rattle.mp_elim.specs.Elimination.{column}
use Rattle.mp_elim.specs.Shape.{low_of, past_of}
use Rattle.mp_elim.proofs.Band.{Shape}
use Rattle.mp_sheet.specs.Layout.{system_of}
use Rattle.mp_sheet.proofs.elimination.forward.Given as goal

abbrev pub invariant-loop-j : goal.invariant-loop-j
invariant-loop-j g l = record {
  rest : each (λ j. column l.threshold (low_of l.n l.m j) (past_of l.n l.m j) j) l.j (l.m - l.j) (system_of l.s)
      ≡ each (λ j. column l.threshold (low_of l.n l.m j) (past_of l.n l.m j) j) 0 l.m (system_of l.fn.s);
  form : l.s.form ≡ l.fn.s.form;
  block : l.n ≡ l.fn.s.form.block;
  count : l.m ≡ l.fn.s.form.count;
  shape : Shape l.n l.m (l.j / l.n) l.j (system_of l.fn.s) (system_of l.s);
  cost : l.steps ≤ l.fn.steps + l.j * (12 * l.n * l.n);
}
