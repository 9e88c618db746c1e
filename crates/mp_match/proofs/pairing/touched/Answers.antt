use Rattle.mp_incidence.proofs.Rows.{row_more}
use Rattle.mp_match.specs.Held.{Touches}
use Rattle.mp_match.proofs.pairing.touched.Goals as goal

pub marks-preserved : goal.marks-preserved
marks-preserved c = rw c.in_ok-push.ensures.items (row_more (Touches c.args.table.now c.args.nodes.now) c.marks.v c.marks.marks.items c.touches.result c.marks.invariant c.touches.ensures)
