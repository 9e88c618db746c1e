use Rattle.std.proofs.Common.{◌≡◌, ◌+◌, ◌-◌, ◌*◌, ◌≤◌}
use Rattle.mp_turns.specs.Turns.{each}
use Rattle.mp_elim.specs.Elimination.{lessened}
use Rattle.mp_sheet.specs.Layout.{system_of}
use Rattle.mp_sheet.proofs.rows.lessen.Given as goal

abbrev pub invariant-loop-k : goal.invariant-loop-k
invariant-loop-k g l = record {
  rest : each (lessened l.j l.i l.f) l.k (l.past - l.k) (system_of l.s) ≡ each (lessened l.j l.i l.f) (l.j + 1) (l.past - (l.j + 1)) (system_of l.fn.s);
  form : l.s.form ≡ l.fn.s.form;
  cost : l.steps ≤ l.fn.steps + 2 * (l.k - (l.j + 1));
}
