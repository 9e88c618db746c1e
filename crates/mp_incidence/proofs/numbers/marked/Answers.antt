use Rattle.std.proofs.Common.{◌∙◌}
use Rattle.mp_incidence.proofs.Steps.{marked_more, marked_skip}
use Rattle.mp_incidence.proofs.numbers.marked.Goals as goal
use Rattle.mp_incidence.proofs.numbers.marked.Goals.{then-marks-i+in_ok-add, else-marks-i}

pub marks-preserved : goal.marks-preserved
marks-preserved c =
    elim c.if-marks-i.branch [
      | then-marks-i+in_ok-add w ↦ rw (w.xs-is ∙ w.in_ok-add.ensures.ok) (marked_more c.args.marks.now c.marks.i c.marks.xs c.marks.invariant w.if-marks-i.true)
      | else-marks-i w ↦ rw w.xs-is (marked_skip c.args.marks.now c.marks.i c.marks.xs c.marks.invariant w.if-marks-i.false)
    ]
