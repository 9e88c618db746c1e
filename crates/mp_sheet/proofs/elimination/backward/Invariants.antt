use Rattle.std.proofs.Common.{◌≡◌, ◌+◌, ◌-◌, ◌*◌, ◌≤◌}
use Rattle.mp_turns.specs.Turns.{each_down}
use Rattle.mp_elim.specs.Elimination.{answered}
use Rattle.mp_elim.specs.Shape.{past_of}
use Rattle.mp_sheet.specs.Layout.{system_of}
use Rattle.mp_sheet.proofs.elimination.backward.Given as goal

abbrev pub invariant-loop-j : goal.invariant-loop-j
invariant-loop-j g l = record {
  rest : each_down (λ j. answered (past_of l.n l.m j) j) l.j (system_of l.s) ≡ each_down (λ j. answered (past_of l.n l.m j) j) l.m (system_of l.fn.s);
  form : l.s.form ≡ l.fn.s.form;
  block : l.n ≡ l.fn.s.form.block;
  count : l.m ≡ l.fn.s.form.count;
  below : l.j ≤ l.m;
  cost : l.steps ≤ l.fn.steps + (l.m - l.j) * (6 * l.n);
}

abbrev pub decreases-loop-j : goal.decreases-loop-j
decreases-loop-j g l = l.j
