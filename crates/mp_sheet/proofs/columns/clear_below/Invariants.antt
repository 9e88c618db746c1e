use Rattle.std.proofs.Common.{◌≡◌, ◌+◌, ◌-◌, ◌*◌, ◌≤◌}
use Rattle.mp_turns.specs.Turns.{each}
use Rattle.mp_elim.specs.Elimination.{cleared}
use Rattle.mp_sheet.specs.Layout.{system_of}
use Rattle.mp_sheet.proofs.columns.clear_below.Given as goal

abbrev pub invariant-loop-i : goal.invariant-loop-i
invariant-loop-i g l = record {
  rest : each (cleared l.past l.j) l.i (l.low - l.i) (system_of l.s) ≡ each (cleared l.past l.j) (l.j + 1) (l.low - (l.j + 1)) (system_of l.fn.s);
  form : l.s.form ≡ l.fn.s.form;
  cost : l.steps ≤ l.fn.steps + (l.i - (l.j + 1)) * (2 * (l.past - l.j) + 1);
}
