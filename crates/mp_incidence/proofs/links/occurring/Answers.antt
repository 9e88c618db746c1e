use Rattle.mp_pairing.specs.Lists.{Has}
use Rattle.mp_incidence.proofs.Rows.{row_more}
use Rattle.mp_incidence.proofs.links.occurring.Goals as goal

pub marks-preserved : goal.marks-preserved
marks-preserved c = rw c.in_ok-push.ensures.items (row_more (Has c.args.row.now) c.marks.b c.marks.marks.items c.lists.result c.marks.invariant c.lists.ensures)
