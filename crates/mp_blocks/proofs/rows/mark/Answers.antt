use Rattle.mp_graph.specs.Shared.{term_at}
use Rattle.mp_blocks.specs.Marks.{IsVariable}
use Rattle.std.proofs.Common.{ℕ, arith}
use Rattle.mp_blocks.proofs.Marks.{marks_set, marks_same}
use Rattle.mp_blocks.proofs.rows.mark.Goals as goal

pub returns-then-v-marks : goal.returns-then-v-marks
returns-then-v-marks c = marks_set (λ (v : ℕ). IsVariable v (term_at c.args.graph.now.terms c.args.id)) c.args.marks.now c.in-Some.v c.if-v-marks.true c.in-Some.ensures.some

pub returns-else-v-marks : goal.returns-else-v-marks
returns-else-v-marks c =
    let far = c.if-v-marks.false in
    marks_same (λ (v : ℕ). IsVariable v (term_at c.args.graph.now.terms c.args.id)) c.args.marks.now (λ v l p. let e = (c.in-Some.ensures.some v).0 p in omega arith)

pub returns-in_default : goal.returns-in_default
returns-in_default c = marks_same (λ (v : ℕ). IsVariable v (term_at c.args.graph.now.terms c.args.id)) c.args.marks.now (λ v l p. c.in_default.ensures.none v p)
