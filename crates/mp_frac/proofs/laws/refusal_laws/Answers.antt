use Rattle.mp_frac.proofs.Meaning.{ratio_outcome-by_zero, quotient_outcome-by_zero, power_outcome-by_zero, sum_outcome-not_by_zero, product_outcome-not_by_zero, product_outcome-overflow}
use Rattle.mp_frac.proofs.laws.refusal_laws.Goals as goal

pub returns-clause-ratio_by_zero : goal.returns-clause-ratio_by_zero
returns-clause-ratio_by_zero c = ratio_outcome-by_zero

pub returns-clause-quotient_by_zero : goal.returns-clause-quotient_by_zero
returns-clause-quotient_by_zero c = quotient_outcome-by_zero

pub returns-clause-negative_power_of_zero : goal.returns-clause-negative_power_of_zero
returns-clause-negative_power_of_zero c = power_outcome-by_zero

pub returns-clause-sum_never_by_zero : goal.returns-clause-sum_never_by_zero
returns-clause-sum_never_by_zero c = sum_outcome-not_by_zero

pub returns-clause-product_never_by_zero : goal.returns-clause-product_never_by_zero
returns-clause-product_never_by_zero c = product_outcome-not_by_zero

pub returns-clause-product_overflow : goal.returns-clause-product_overflow
returns-clause-product_overflow c = product_outcome-overflow
