use Rattle.std.proofs.Common.{sym, ◌∙◌}
use Rattle.mp_literal.proofs.EndZeros.{kept-none, kept-some}
use Rattle.mp_literal.proofs.parts.digits_kept.Goals as goal

pub returns-then-is_empty-clause-value : goal.returns-then-is_empty-clause-value
returns-then-is_empty-clause-value c =
    kept-none c.args.whole.now c.args.fraction.now _ _ c.without_end_zeros-whole.ensures.value c.without_end_zeros-fraction.ensures.value (sym c.is_empty.ensures ∙ c.if-is_empty.true)

pub returns-clause-value : goal.returns-clause-value
returns-clause-value c =
    kept-some c.args.whole.now c.args.fraction.now _ c.without_end_zeros-fraction.ensures.value (sym c.is_empty.ensures ∙ c.if-is_empty.false)
