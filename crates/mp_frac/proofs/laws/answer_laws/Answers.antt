use Rattle.mp_frac.proofs.Meaning.{ratio_outcome-ok, sum_outcome-ok, difference_outcome-ok, product_outcome-ok, quotient_outcome-ok, power_outcome-ok}
use Rattle.mp_frac.proofs.laws.answer_laws.Goals as goal

pub returns-clause-ratio : goal.returns-clause-ratio
returns-clause-ratio c = ratio_outcome-ok

pub returns-clause-sum : goal.returns-clause-sum
returns-clause-sum c = sum_outcome-ok

pub returns-clause-difference : goal.returns-clause-difference
returns-clause-difference c = difference_outcome-ok

pub returns-clause-product : goal.returns-clause-product
returns-clause-product c = product_outcome-ok

pub returns-clause-quotient : goal.returns-clause-quotient
returns-clause-quotient c = quotient_outcome-ok

pub returns-clause-power : goal.returns-clause-power
returns-clause-power c = power_outcome-ok
