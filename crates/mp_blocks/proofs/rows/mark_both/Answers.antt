use Rattle.std.proofs.Common.{ℕ}
use Rattle.mp_graph.specs.Shared.{term_at}
use Rattle.mp_blocks.specs.Rows.{StandsIn}
use Rattle.mp_blocks.proofs.Marks.{marks_both}
use Rattle.mp_blocks.proofs.rows.mark_both.Goals as goal

pub returns : goal.returns
returns c =
    let ts = c.args.graph.now.terms in
    marks_both (λ (v : ℕ). StandsIn v (term_at ts c.args.equation.now.left)) (λ (v : ℕ). StandsIn v (term_at ts c.args.equation.now.right))
    c.args.marks.now c.mark_all.new.marks c.mark_all-2.new.marks c.in_ok-mark_all.ensures c.in_ok-mark_all-2.ensures
