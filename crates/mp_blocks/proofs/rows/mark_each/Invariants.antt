use Rattle.mp_blocks.specs.Marks.{AddsMarks, IsAmong}
use Rattle.mp_blocks.proofs.rows.mark_each.Given as goal

abbrev pub invariant-nodes : goal.invariant-nodes
invariant-nodes l = AddsMarks (IsAmong l.graph.terms l.ids l.i) l.initial.marks l.marks
