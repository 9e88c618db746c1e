use Rattle.std.proofs.Common.{arith, ◌∙◌}
use Rattle.mp_literal.proofs.EndZeros.{zero-last, other-last, none-left}
use Rattle.mp_literal.proofs.parts.without_end_zeros.Goals as goal
use Rattle.mp_literal.proofs.parts.without_end_zeros.Goals.{then-loop-count-test+else-digits-count-eq48, else-loop-count-test}

pub loop-count-preserved : goal.loop-count-preserved
loop-count-preserved c = record {
  within = omega arith;
  told = zero-last c.args.digits.now c.loop-count.count c.loop-count-test.true c.loop-count.invariant.within c.if-digits-count-eq48.true c.loop-count.invariant.told;
}

pub returns-clause-value : goal.returns-clause-value
returns-clause-value c =
    let digits = c.args.digits.now in
    let inv = c.loop-count.invariant in
    c.split_at.ensures.front ∙ elim c.loop-count-test.branch [
      | then-loop-count-test+else-digits-count-eq48 w ↦ other-last digits c.loop-count.count w.loop-count-test.true inv.within w.if-digits-count-eq48.false inv.told
      | else-loop-count-test w ↦ none-left digits c.loop-count.count (omega arith) inv.told
    ]
