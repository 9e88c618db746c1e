use Rattle.std.proofs.Common.{◌≡◌, ◌+◌, ◌-◌, ◌*◌, ◌≤◌}
use Rattle.mp_turns.specs.Turns.{each}
use Rattle.mp_elim.specs.Elimination.{less_product}
use Rattle.mp_sheet.specs.Layout.{system_of}
use Rattle.mp_sheet.proofs.answers.rest_of.Given as goal

abbrev pub invariant-loop-k : goal.invariant-loop-k
invariant-loop-k g l = record {
  rest : each (λ k z. less_product l.j z ((system_of l.s).at l.j k) ((system_of l.s).right k)) l.k (l.past - l.k) l.z
      ≡ each (λ k z. less_product l.j z ((system_of l.s).at l.j k) ((system_of l.s).right k)) (l.j + 1) (l.past - (l.j + 1)) ((system_of l.s).right l.j);
  cost : l.steps ≤ l.fn.steps + 2 * (l.k - (l.j + 1));
}
